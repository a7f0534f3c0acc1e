-- `put_named` meets its contract: the refusal's line, and behind it a word and a number.
use mathlib.Core.List.{[], ◌∷◌}
use Prim.Native.Nat.{◌≤◌}
use native.Mathlib.Omega.{arith}
use lib.ListN.{length}
use Rattle.print_text.specs.Lines.{line}
use Rattle.prog_args.specs.Theorems.Text.{line-words}
use Rattle.print_bench.proofs.Laws.{writes_then, writes-long, stands_of}
use borrow.Author.Rules.{rules}
use Rattle.print_bench.proofs.put_named.Goals as goal

pub write_line-requires : goal.write_line-requires
write_line-requires c =
    let short : length (line c.args.word.now (c.args.address ∷ [])) ≤ 30 =
    omega (arith, line-words c.args.word.now (c.args.address ∷ []) (search rules, tt), c.requires.word_len_bound) in
    omega (arith, short, c.requires.text_room_in_bounds, c.write_refusal-at.ensures.upper_bound, writes-long c.write_refusal-at.ensures.writes)

pub returns : goal.returns
returns c =
    let short : length (line c.args.word.now (c.args.address ∷ [])) ≤ 30 =
    omega (arith, line-words c.args.word.now (c.args.address ∷ []) (search rules, tt), c.requires.word_len_bound) in
    let v = c.write_line.ensures in
    stands_of (writes_then c.write_refusal-at.ensures.writes v) (omega (
      arith,
      short,
      c.requires.text_room_in_bounds,
      c.write_refusal-at.ensures.upper_bound,
      c.write_line.ensures.place,
    ))
