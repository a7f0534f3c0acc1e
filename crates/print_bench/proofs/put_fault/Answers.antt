-- `put_fault` meets its contract: a word and a number of at most twenty digits fit.
use mathlib.Core.List.{[], ◌∷◌}
use mathlib.Core.Path.{sym, ◌∙◌}
use Prim.Native.Nat.{◌≤◌}
use native.Mathlib.Omega.{arith}
use lib.ListN.{length}
use Rattle.print_text.specs.Ascii.{ascii}
use Rattle.print_text.specs.Lines.{line}
use Rattle.prog_args.specs.Theorems.Text.{line-words}
use Rattle.print_bench.proofs.Laws.{writes_as, writes-none}
use Rattle.print_bench.specs.Laws.Loading.{fault-long, fault-good, fault-at}
use borrow.Author.Rules.{rules}
use Rattle.print_bench.proofs.put_fault.Goals as goal

pub returns-then-source-ge-SOURCE-clause-writes : goal.returns-then-source-ge-SOURCE-clause-writes
returns-then-source-ge-SOURCE-clause-writes c =
    writes_as (fault-long c.args.load c.args.source.now (omega (arith, c.if-source-ge-SOURCE.true))) (writes-none c.args.at)

pub write_line-requires : goal.write_line-requires
write_line-requires c =
    let short : length (line (ascii "line") (c.in-Some.line ∷ [])) ≤ 26 =
    omega (arith, line-words (ascii "line") (c.in-Some.line ∷ []) (search rules, tt)) in
    omega (arith, short, c.requires)

pub returns-in-None-clause-writes : goal.returns-in-None-clause-writes
returns-in-None-clause-writes c =
    let told = c.line_at_fault-fault.ensures.0 in writes_as
    (fault-good c.args.load c.args.source.now (omega (arith, c.if-source-ge-SOURCE.false)) (sym c.in-None.is ∙ told))
    (writes-none c.args.at)

pub returns-in-Some-clause-writes : goal.returns-in-Some-clause-writes
returns-in-Some-clause-writes c =
    let short : length (line (ascii "line") (c.in-Some.line ∷ [])) ≤ 26 =
    omega (arith, line-words (ascii "line") (c.in-Some.line ∷ []) (search rules, tt)) in
    let n = c.in-Some.line in
    let w = c.write_line.ensures in writes_as
    (fault-at c.args.load c.args.source.now (omega (arith, c.if-source-ge-SOURCE.false)) n
    (sym c.in-Some.is ∙ c.line_at_fault-fault.ensures.0))
    w

pub returns-in-Some-clause-upper_bound : goal.returns-in-Some-clause-upper_bound
returns-in-Some-clause-upper_bound c =
    let short : length (line (ascii "line") (c.in-Some.line ∷ [])) ≤ 26 =
    omega (arith, line-words (ascii "line") (c.in-Some.line ∷ []) (search rules, tt)) in
    let n = c.in-Some.line in
    let w = c.write_line.ensures in omega (arith, c.write_line.ensures.place, short)
