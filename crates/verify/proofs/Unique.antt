-- Uniqueness: `compare`'s own contract has one outcome, the answer and all three lent slices, and that of the overlay's
-- `in_order`, which it calls, one answer.
-- `Learnt` is what the check reads off a function's `ensures` for its callers, so that a looser clause breaks its line here.
use mathlib.Core.Path.{◌≡◌}
use borrow.Fn.Kinds.{Dens, res_t, ended_of}
use contract.Lifetimes.{Lfts}
use denote.Triple.Clauses.{AtExit}
use Rattle.prelude.specs.Laws.Outcome.{OneOutcome}
use Rattle.prelude.specs.Laws.Pick.{determined}
use Rattle.overlay.proofs.in_order.Kinds as in-order-kinds
use Rattle.overlay.proofs.in_order.Reads as in-order-reads
use Rattle.verify.proofs.compare.Kinds as compare-kinds
use Rattle.verify.proofs.compare.Reads as compare-reads

pub in-order-unique : OneOutcome 2 in-order-kinds.ps in-order-kinds.r in-order-reads.Learnt
in-order-unique κs a x y e f p q = determined p q

pub compare-unique : (κs : Lfts 9) (a : Dens κs compare-kinds.ps) (x y : (res_t compare-kinds.r κs).Denot)
    (e f : AtExit (ended_of 9 compare-kinds.ps compare-kinds.r) κs)
    → compare-reads.Learnt κs a x e → compare-reads.Learnt κs a y f
    → (x ≡ y) × (e.1.1.1.1.1.1.0.now ≡ f.1.1.1.1.1.1.0.now)
    × (e.1.1.1.1.1.1.1.0.now ≡ f.1.1.1.1.1.1.1.0.now)
    × (e.1.1.1.1.1.1.1.1.0.now ≡ f.1.1.1.1.1.1.1.1.0.now)
compare-unique κs a x y e f p q = (
  determined p.answer q.answer,
  determined p.first q.first,
  determined p.second q.second,
  determined p.third q.third,
)
