-- Uniqueness: each public function's own contract has one outcome, the answer and the three arrays afterwards. `Learnt` is what the check reads off a
-- function's `ensures` for its callers, so that a looser clause breaks its line here.
use mathlib.Core.Path.{◌≡◌}
use contract.Lifetimes.{Lfts}
use borrow.Fn.Kinds.{Dens, res_t, ended_of}
use denote.Triple.Clauses.{AtExit}
use Rattle.prelude.specs.Laws.Outcome.{OneOutcome}
use Rattle.prelude.specs.Laws.Pick.{determined}
use Rattle.overlap_checker.specs.Laws.Unique.{offers-unique, answers-alike}
use Rattle.overlap_checker.proofs.answered.Kinds as answered-kinds
use Rattle.overlap_checker.proofs.answered.Reads as answered-reads
use Rattle.overlap_checker.proofs.hit_before.Kinds as hit-kinds
use Rattle.overlap_checker.proofs.hit_before.Reads as hit-reads
use Rattle.overlap_checker.proofs.offer.Kinds as offer-kinds
use Rattle.overlap_checker.proofs.offer.Reads as offer-reads

pub offer-unique : (κs : Lfts 3) (a : Dens κs offer-kinds.ps) (x y : (res_t offer-kinds.r κs).Denot)
    (e f : AtExit (ended_of 3 offer-kinds.ps offer-kinds.r) κs) → offer-reads.Learnt κs a x e → offer-reads.Learnt κs a y f
    → (x ≡ y) × ((e.0.now ≡ f.0.now) × (e.1.0.now ≡ f.1.0.now) × (e.1.1.1.0.now ≡ f.1.1.1.0.now))
offer-unique κs a x y e f p q =
    answers-alike x y e.0.now e.1.0.now e.1.1.1.0.now f.0.now f.1.0.now f.1.1.1.0.now (offers-unique _ _ _ _ _ _ _ p q)

pub hit-before-unique : OneOutcome 2 hit-kinds.ps hit-kinds.r hit-reads.Learnt
hit-before-unique κs a x y e f p q = determined p q

pub answered-unique : OneOutcome 0 answered-kinds.ps answered-kinds.r answered-reads.Learnt
answered-unique κs a x y e f p q = determined p q
