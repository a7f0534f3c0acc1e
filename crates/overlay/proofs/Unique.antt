-- Uniqueness: each public function's own contract has one outcome, the answer and all that is lent afterwards. `Learnt` is what the check
-- reads off a function's `ensures` for its callers, so that a looser clause breaks its line here.
use mathlib.Core.Path.{◌≡◌}
use borrow.Fn.Kinds.{Dens, res_t, ended_of}
use contract.Lifetimes.{Lfts}
use denote.Triple.Clauses.{AtExit}
use Rattle.prelude.specs.Laws.Outcome.{OneOutcome}
use Rattle.prelude.specs.Laws.Pick.{determined}
use Rattle.overlay.proofs.which.Kinds as which-kinds
use Rattle.overlay.proofs.which.Reads as which-reads
use Rattle.overlay.proofs.pick.Kinds as pick-kinds
use Rattle.overlay.proofs.pick.Reads as pick-reads
use Rattle.overlay.proofs.differences.Kinds as differences-kinds
use Rattle.overlay.proofs.differences.Reads as differences-reads

pub which-unique : OneOutcome 4 which-kinds.ps which-kinds.r which-reads.Learnt
which-unique κs a x y e f p q = determined p.answer q.answer

-- of the part that is handed back, every byte
pub pick-unique : (κs : Lfts 3) (a : Dens κs pick-kinds.ps) (x y : (res_t pick-kinds.r κs).Denot) (e f : AtExit (ended_of 3 pick-kinds.ps pick-kinds.r) κs)
    → pick-reads.Learnt κs a x e → pick-reads.Learnt κs a y f → x.now ≡ y.now
pick-unique κs a x y e f p q = determined p.bytes q.bytes

-- the answer, and both lent slices
pub differences-unique : (κs : Lfts 6) (a : Dens κs differences-kinds.ps) (x y : (res_t differences-kinds.r κs).Denot)
    (e f : AtExit (ended_of 6 differences-kinds.ps differences-kinds.r) κs)
    → differences-reads.Learnt κs a x e → differences-reads.Learnt κs a y f
    → (x ≡ y) × ((e.1.1.1.1.0.now ≡ f.1.1.1.1.0.now) × (e.1.1.1.1.1.0.now ≡ f.1.1.1.1.1.0.now))
differences-unique κs a x y e f p q =
    (determined p.answer q.answer, (determined p.first q.first, determined p.second q.second))
