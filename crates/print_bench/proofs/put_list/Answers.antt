-- `put_list` meets its contract: the lines of all runs have room, and the refusals are those of the list.
use mathlib.Core.List.{[], ◌∷◌}
use Prim.Native.Nat.{◌≤◌}
use native.Mathlib.Omega.{arith}
use lib.ListN.{length, take}
use Rattle.overlay.specs.Trial.{Trial, trial}
use Rattle.print_text.specs.Ascii.{ascii}
use Rattle.print_text.specs.Lines.{line}
use Rattle.prog_args.specs.Theorems.Text.{line-words}
use Rattle.print_bench.specs.Program.{run_lines}
use Rattle.print_bench.proofs.Laws.{writes_then, writes-long, stands_of, stands-as}
use Rattle.print_bench.proofs.Listing.{list-refused, each-listed, lines_fit, list-is}
use borrow.Author.Rules.{rules}
use Rattle.print_bench.proofs.put_list.Goals as goal

pub put_runs-at-requires-clause-each_in_both : goal.put_runs-at-requires-clause-each_in_both
put_runs-at-requires-clause-each_in_both c =
    let t : Trial = trial c.args.overlay.now c.args.released.now c.args.offsets.now c.args.sizes.now in
    each-listed t c.requires.released_len_bound.0 c.requires.released_len_bound.1 c.args.firsts.now c.args.counts.now c.differences-listed.result
    c.differences-listed.new.firsts c.differences-listed.new.counts c.differences-listed.ensures c.requires.firsts_len.0 c.requires.firsts_len.1
    c.in-Ok.count c.in-Ok.is

pub put_runs-at-requires-clause-counts_in_bounds : goal.put_runs-at-requires-clause-counts_in_bounds
put_runs-at-requires-clause-counts_in_bounds c =
    let t : Trial = trial c.args.overlay.now c.args.released.now c.args.offsets.now c.args.sizes.now in
    let fit : length (run_lines c.args.load c.args.released.now c.args.overlay.now (take c.in-Ok.count c.differences-listed.new.firsts)
    (take c.in-Ok.count c.differences-listed.new.counts)) ≤ 3801092 =
    lines_fit t c.requires.released_len_bound.0 c.requires.released_len_bound.1 c.args.firsts.now c.args.counts.now c.differences-listed.result
    c.differences-listed.new.firsts c.differences-listed.new.counts c.differences-listed.ensures c.requires.firsts_len.0 c.requires.firsts_len.1
    c.in-Ok.count c.in-Ok.is c.args.load (search rules) in
    omega (arith, fit, c.requires.text_room_in_bounds)

pub put_alone-next-requires-clause-at_in_bounds : goal.put_alone-next-requires-clause-at_in_bounds
put_alone-next-requires-clause-at_in_bounds c =
    let t : Trial = trial c.args.overlay.now c.args.released.now c.args.offsets.now c.args.sizes.now in
    let fit : length (run_lines c.args.load c.args.released.now c.args.overlay.now (take c.in-Ok.count c.differences-listed.new.firsts)
    (take c.in-Ok.count c.differences-listed.new.counts)) ≤ 3801092 =
    lines_fit t c.requires.released_len_bound.0 c.requires.released_len_bound.1 c.args.firsts.now c.args.counts.now c.differences-listed.result
    c.differences-listed.new.firsts c.differences-listed.new.counts c.differences-listed.ensures c.requires.firsts_len.0 c.requires.firsts_len.1
    c.in-Ok.count c.in-Ok.is c.args.load (search rules) in
    omega (arith, fit, c.put_runs-at.ensures.place, writes-long c.put_runs-at.ensures, c.requires.text_room_in_bounds)

pub write_line-requires : goal.write_line-requires
write_line-requires c =
    let t : Trial = trial c.args.overlay.now c.args.released.now c.args.offsets.now c.args.sizes.now in
    let fit : length (run_lines c.args.load c.args.released.now c.args.overlay.now (take c.in-Ok.count c.differences-listed.new.firsts)
    (take c.in-Ok.count c.differences-listed.new.counts)) ≤ 3801092 =
    lines_fit t c.requires.released_len_bound.0 c.requires.released_len_bound.1 c.args.firsts.now c.args.counts.now c.differences-listed.result
    c.differences-listed.new.firsts c.differences-listed.new.counts c.differences-listed.ensures c.requires.firsts_len.0 c.requires.firsts_len.1
    c.in-Ok.count c.in-Ok.is c.args.load (search rules) in
    let last_line : length (line (ascii "runs") (c.in-Ok.count ∷ [])) ≤ 26 =
    omega (arith, line-words (ascii "runs") (c.in-Ok.count ∷ []) (search rules, tt)) in
    let v = c.put_alone-next.ensures in
    omega (
      arith,
      fit,
      last_line,
      c.put_runs-at.ensures.place,
      writes-long c.put_runs-at.ensures,
      v.upper_bound,
      writes-long v.writes,
      c.requires.text_room_in_bounds,
    )

pub returns-in-Err : goal.returns-in-Err
returns-in-Err c =
    let t : Trial = trial c.args.overlay.now c.args.released.now c.args.offsets.now c.args.sizes.now in
    stands-as
    (list-refused t c.requires.released_len_bound.0 c.requires.released_len_bound.1 c.args.firsts.now c.args.counts.now c.differences-listed.result
    c.differences-listed.new.firsts c.differences-listed.new.counts c.differences-listed.ensures c.requires.firsts_len.0 c.requires.firsts_len.1
    c.args.load c.args.alone c.in-Err.why c.in-Err.is)
    c.put_refusal.ensures.stands

pub returns-in-Ok : goal.returns-in-Ok
returns-in-Ok c =
    let t : Trial = trial c.args.overlay.now c.args.released.now c.args.offsets.now c.args.sizes.now in
    let fit : length (run_lines c.args.load c.args.released.now c.args.overlay.now (take c.in-Ok.count c.differences-listed.new.firsts)
    (take c.in-Ok.count c.differences-listed.new.counts)) ≤ 3801092 =
    lines_fit t c.requires.released_len_bound.0 c.requires.released_len_bound.1 c.args.firsts.now c.args.counts.now c.differences-listed.result
    c.differences-listed.new.firsts c.differences-listed.new.counts c.differences-listed.ensures c.requires.firsts_len.0 c.requires.firsts_len.1
    c.in-Ok.count c.in-Ok.is c.args.load (search rules) in
    let last_line : length (line (ascii "runs") (c.in-Ok.count ∷ [])) ≤ 26 =
    omega (arith, line-words (ascii "runs") (c.in-Ok.count ∷ []) (search rules, tt)) in
    let w = c.put_runs-at.ensures in
    let v = c.put_alone-next.ensures in
    let u = c.write_line.ensures in
    stands-as
    (list-is t c.requires.released_len_bound.0 c.requires.released_len_bound.1 c.args.firsts.now c.args.counts.now c.differences-listed.result
    c.differences-listed.new.firsts c.differences-listed.new.counts c.differences-listed.ensures c.requires.firsts_len.0 c.requires.firsts_len.1
    c.in-Ok.count c.in-Ok.is c.args.load c.args.alone)
    (stands_of (writes_then (writes_then w v.writes) u)
    (omega (arith, fit, last_line, w.place, v.upper_bound, u.place, c.requires.text_room_in_bounds)))
