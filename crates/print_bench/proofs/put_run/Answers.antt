-- `put_run` meets its contract: the line's parts, one behind the other, each with room for those behind it.
use mathlib.Core.List.{[], ◌∷◌}
use Prim.Native.Nat.{ℕ, ◌+◌, ◌-◌, ◌*◌, ◌≤◌}
use native.Mathlib.Omega.{arith}
use lib.ListN.{length, take, drop}
use Rattle.print_text.specs.Lines.{spaced}
use Rattle.print_bench.proofs.Laws.{writes_then, writes-long, length-field, length_run, part-long, same-run}
use Rattle.print_bench.proofs.put_run.Goals as goal

pub write_word-a-requires : goal.write_word-a-requires
write_word-a-requires c =
    let long : ℕ = length (spaced ((c.args.load + c.args.first) ∷ c.args.count ∷ [])) in
    let roomy : c.args.at + long + 4 * c.args.count + 6 ≤ length c.args.out.now =
    omega (
      arith,
      length_run c.args.load c.args.released.now c.args.overlay.now c.args.first c.args.count c.requires.in_both.issued c.requires.in_both.overlaid,
      c.requires.count_in_bounds,
    ) in
    omega (arith, roomy)

pub write_numbers-b-requires : goal.write_numbers-b-requires
write_numbers-b-requires c =
    let long : ℕ = length (spaced ((c.args.load + c.args.first) ∷ c.args.count ∷ [])) in
    let roomy : c.args.at + long + 4 * c.args.count + 6 ≤ length c.args.out.now =
    omega (
      arith,
      length_run c.args.load c.args.released.now c.args.overlay.now c.args.first c.args.count c.requires.in_both.issued c.requires.in_both.overlaid,
      c.requires.count_in_bounds,
    ) in
    omega (arith, roomy, c.write_word-a.ensures.place, writes-long c.write_word-a.ensures)

pub put_field-c-requires-clause-bytes_in_bounds : goal.put_field-c-requires-clause-bytes_in_bounds
put_field-c-requires-clause-bytes_in_bounds c =
    let long : ℕ = length (spaced ((c.args.load + c.args.first) ∷ c.args.count ∷ [])) in
    let roomy : c.args.at + long + 4 * c.args.count + 6 ≤ length c.args.out.now =
    omega (
      arith,
      length_run c.args.load c.args.released.now c.args.overlay.now c.args.first c.args.count c.requires.in_both.issued c.requires.in_both.overlaid,
      c.requires.count_in_bounds,
    ) in
    let l = part-long c.args.released.now c.args.first c.args.count c.requires.in_both.issued in
    omega (
      arith,
      l,
      length-field (take (c.args.first + c.args.count - c.args.first) (drop c.args.first c.args.released.now)),
      roomy,
      c.write_word-a.ensures.place,
      writes-long c.write_word-a.ensures,
      c.write_numbers-b.ensures.place,
      writes-long c.write_numbers-b.ensures,
    )

pub put_field-d-requires-clause-bytes_in_bounds : goal.put_field-d-requires-clause-bytes_in_bounds
put_field-d-requires-clause-bytes_in_bounds c =
    let long : ℕ = length (spaced ((c.args.load + c.args.first) ∷ c.args.count ∷ [])) in
    let roomy : c.args.at + long + 4 * c.args.count + 6 ≤ length c.args.out.now =
    omega (
      arith,
      length_run c.args.load c.args.released.now c.args.overlay.now c.args.first c.args.count c.requires.in_both.issued c.requires.in_both.overlaid,
      c.requires.count_in_bounds,
    ) in
    let k = part-long c.args.released.now c.args.first c.args.count c.requires.in_both.issued in
    let l = part-long c.args.overlay.now c.args.first c.args.count c.requires.in_both.overlaid in
    omega (
      arith,
      k,
      l,
      length-field (take (c.args.first + c.args.count - c.args.first) (drop c.args.first c.args.released.now)),
      length-field (take (c.args.first + c.args.count - c.args.first) (drop c.args.first c.args.overlay.now)),
      roomy,
      c.write_word-a.ensures.place,
      writes-long c.write_word-a.ensures,
      c.write_numbers-b.ensures.place,
      writes-long c.write_numbers-b.ensures,
      c.put_field-c.ensures.place,
      writes-long c.put_field-c.ensures,
    )

pub write_word-requires : goal.write_word-requires
write_word-requires c =
    let long : ℕ = length (spaced ((c.args.load + c.args.first) ∷ c.args.count ∷ [])) in
    let roomy : c.args.at + long + 4 * c.args.count + 6 ≤ length c.args.out.now =
    omega (
      arith,
      length_run c.args.load c.args.released.now c.args.overlay.now c.args.first c.args.count c.requires.in_both.issued c.requires.in_both.overlaid,
      c.requires.count_in_bounds,
    ) in
    let w = c.write_word-a.ensures in
    let v = c.write_numbers-b.ensures in
    let f = c.put_field-c.ensures in
    let g = c.put_field-d.ensures in
    let k = part-long c.args.released.now c.args.first c.args.count c.requires.in_both.issued in
    let l = part-long c.args.overlay.now c.args.first c.args.count c.requires.in_both.overlaid in
    omega (
      arith,
      k,
      l,
      length-field (take (c.args.first + c.args.count - c.args.first) (drop c.args.first c.args.released.now)),
      length-field (take (c.args.first + c.args.count - c.args.first) (drop c.args.first c.args.overlay.now)),
      roomy,
      c.write_word-a.ensures.place,
      writes-long w,
      c.write_numbers-b.ensures.place,
      writes-long v,
      c.put_field-c.ensures.place,
      writes-long f,
      c.put_field-d.ensures.place,
      writes-long g,
    )

pub returns : goal.returns
returns c =
    same-run c.args.load c.args.released.now c.args.overlay.now c.args.first c.args.count
    (writes_then
    (writes_then
    (writes_then (writes_then c.write_word-a.ensures c.write_numbers-b.ensures) c.put_field-c.ensures)
    c.put_field-d.ensures)
    c.write_word.ensures)
