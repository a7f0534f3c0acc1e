-- `place` meets its contract: one law for each way through the tests.
use mathlib.Core.Path.{sym, ◌∙◌}
use borrow.Author.Tests.{not-true}
use Rattle.build_plan.specs.Placing.{offer_at}
use Rattle.build_plan.proofs.OfferLaws.{offers-unplaced, goes_none}
use Rattle.build_plan.proofs.Store.place.Goals as goal

pub returns-then-not-is_placed-clause-goes : goal.returns-then-not-is_placed-clause-goes
returns-then-not-is_placed-clause-goes c =
    let a = c.args in
    let none = sym c.is_placed.ensures ∙ not-true _ c.if-not-is_placed.true-raw in
    goes_none _ (offer_at a.node a.out) c.requires.sound (offers-unplaced a.node a.out none)
