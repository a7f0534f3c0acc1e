-- `length_after` meets its contract: one law for each way.
use mathlib.Core.Path.{sym, ◌∙◌}
use borrow.Author.Tests.{not-true, not-false}
use Rattle.build_plan.proofs.OfferLaws.{length-other, length-nowhere, length_at}
use borrow.Author.Rules.{rules}
use Rattle.build_plan.proofs.length_after.Goals as goal

pub returns-then-not-is_written-clause-value : goal.returns-then-not-is_written-clause-value
returns-then-not-is_written-clause-value c =
    length-other c.args.node c.args.out c.args.length (sym c.is_written.ensures ∙ not-true _ c.if-not-is_written.true-raw)

pub returns-in-None-clause-value : goal.returns-in-None-clause-value
returns-in-None-clause-value c =
    length-nowhere c.args.node c.args.out c.args.length c.in-None.is

pub returns-in-Some-clause-value : goal.returns-in-Some-clause-value
returns-in-Some-clause-value c =
    let written = sym c.is_written.ensures ∙ not-false _ c.if-not-is_written.false-raw in
    length_at c.args.node c.args.out c.args.length written c.in-Some.o c.in-Some.is _ (search rules)
