-- `put_alone` meets its contract: a word and a number of at most twenty digits fit.
use mathlib.Core.List.{[], ◌∷◌}
use Prim.Native.Nat.{◌+◌, ◌≤◌}
use native.Mathlib.Omega.{arith}
use lib.ListN.{length}
use Rattle.print_text.specs.Ascii.{ascii}
use Rattle.print_text.specs.Lines.{line}
use Rattle.prog_args.specs.Theorems.Text.{line-words}
use Rattle.print_bench.proofs.Laws.{writes_as, writes-none, alone-some, alone-none}
use borrow.Author.Rules.{rules}
use Rattle.print_bench.proofs.put_alone.Goals as goal

pub write_line-requires : goal.write_line-requires
write_line-requires c =
    let short : length (line (ascii "alone") ((c.args.load + c.args.first) ∷ [])) ≤ 27 =
    omega (arith, line-words (ascii "alone") ((c.args.load + c.args.first) ∷ []) (search rules, tt)) in
    omega (arith, short, c.requires.at_in_bounds)

pub returns-then-first-end-clause-writes : goal.returns-then-first-end-clause-writes
returns-then-first-end-clause-writes c =
    let short : length (line (ascii "alone") ((c.args.load + c.args.first) ∷ [])) ≤ 27 =
    omega (arith, line-words (ascii "alone") ((c.args.load + c.args.first) ∷ []) (search rules, tt)) in
    let w = c.write_line.ensures in writes_as (alone-some c.args.load c.args.end c.args.first c.if-first-end.true) w

pub returns-then-first-end-clause-upper_bound : goal.returns-then-first-end-clause-upper_bound
returns-then-first-end-clause-upper_bound c =
    let short : length (line (ascii "alone") ((c.args.load + c.args.first) ∷ [])) ≤ 27 =
    omega (arith, line-words (ascii "alone") ((c.args.load + c.args.first) ∷ []) (search rules, tt)) in
    let w = c.write_line.ensures in omega (arith, c.write_line.ensures.place, short)

pub returns-clause-writes : goal.returns-clause-writes
returns-clause-writes c =
    writes_as (alone-none c.args.load c.args.end c.args.first (omega (arith, c.if-first-end.false))) (writes-none c.args.at)
