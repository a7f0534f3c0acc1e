-- `offer` meets its contract: one law for each way that a node's offer goes.
use Rattle.std.specs.Prelude.{None}
use mathlib.Core.Path.{◌≡◌}
use mathlib.Core.List.{[], ◌∷◌}
use Prim.Native.Nat.{◌≤◌}
use borrow.Author.Tests.{ne_eqb}
use borrow.Author.Rules.{rules}
use Rattle.prelude.specs.Limits.{max_position}
use Rattle.overlap_checker.specs.Interval.{interval, Within}
use Rattle.overlap_checker.specs.Lent.{lent as store}
use Rattle.build_plan.specs.Placing.{offer_at}
use Rattle.build_plan.proofs.OfferLaws.{offers-nowhere, offers-label, offers-one, goes_none, goes-offered}
use Rattle.build_plan.proofs.Store.offer.Goals as goal

pub returns-in_default-clause-goes : goal.returns-in_default-clause-goes
returns-in_default-clause-goes c =
    let a = c.args in
    let at : a.out ≡ None = search rules in
    let none : offer_at a.node a.out ≡ [] = rw at (offers-nowhere a.node) in
    goes_none _ (offer_at a.node a.out) c.requires.sound none

pub returns-then-node-eq-LABEL-clause-goes : goal.returns-then-node-eq-LABEL-clause-goes
returns-then-node-eq-LABEL-clause-goes c =
    let a = c.args in
    goes_none _ (offer_at a.node a.out) c.requires.sound (offers-label a.node a.out c.if-node-eq-LABEL.true)

pub returns-clause-goes : goal.returns-clause-goes
returns-clause-goes c =
    -- a node's number is within an offer's limits, by its type
    let small : c.args.node.number ≤ max_position =
    search rules in
    let a = c.args in
    let other = ne_eqb a.node.kind 2 c.if-node-eq-LABEL.false in
    let within : Within (interval c.in-Some.o a.node.number) = (c.requires.by_index c.in-Some.o c.in-Some.is, small) in
    let e = interval c.in-Some.o a.node.number in
    let made : offer_at a.node a.out ≡ e ∷ [] = rw c.in-Some.is (offers-one a.node c.in-Some.o c.requires.node_value other) in
    goes-offered (store c.args.self.now.positions c.args.self.now.sizes c.args.self.now.count c.args.self.now.marks c.args.self.now.mark_count) e a.node.index (offer_at a.node a.out) made c.requires.sound within
    c.offer-offered.result.verdict _ (rw c.from.ensures at c.offer-offered.ensures)
