-- Uniqueness: each public function's own contract has one outcome, the answer and the three arrays afterwards. `Learnt` is what the check reads off a
-- function's `ensures` for its callers, so that a looser clause breaks its line here.
use Rattle.std.proofs.Common.{◌≡◌}
use contract.Lifetimes.{Lfts}
use borrow.Fn.Kinds.{Dens, res_t, ended_of}
use denote.Triple.Clauses.{AtExit}
use Rattle.overlap_checker.specs.Laws.Unique.{calls-unique, answers-alike}
use Rattle.overlap_lent.proofs.check_and_insert.Kinds as call-kinds
use Rattle.overlap_lent.proofs.check_and_insert.Reads as call-reads
use Rattle.overlap_lent.proofs.check_and_insert_each.Kinds as each-kinds
use Rattle.overlap_lent.proofs.check_and_insert_each.Reads as each-reads
use Rattle.overlap_lent.proofs.Many.{takes_one, tries-alike}

pub check-and-insert-unique : (κs : Lfts 3) (a : Dens κs call-kinds.ps) (x y : (res_t call-kinds.r κs).Denot)
    (e f : AtExit (ended_of 3 call-kinds.ps call-kinds.r) κs) → call-reads.Learnt κs a x e → call-reads.Learnt κs a y f
    → (x ≡ y) × ((e.0.now ≡ f.0.now) × (e.1.0.now ≡ f.1.0.now) × (e.1.1.1.0.now ≡ f.1.1.1.0.now))
check-and-insert-unique κs a x y e f p q =
    answers-alike x y e.0.now e.1.0.now e.1.1.1.0.now f.0.now f.1.0.now f.1.1.1.0.now (calls-unique _ _ _ _ _ _ p q)

pub check-and-insert-each-unique : (κs : Lfts 5) (a : Dens κs each-kinds.ps) (x y : (res_t each-kinds.r κs).Denot)
    (e f : AtExit (ended_of 5 each-kinds.ps each-kinds.r) κs) → each-reads.Learnt κs a x e → each-reads.Learnt κs a y f
    → (x ≡ y) × ((e.0.now ≡ f.0.now) × (e.1.0.now ≡ f.1.0.now) × (e.1.1.1.0.now ≡ f.1.1.1.0.now))
check-and-insert-each-unique κs a x y e f p q =
    tries-alike x y e.0.now e.1.0.now e.1.1.1.0.now f.0.now f.1.0.now f.1.1.1.0.now (takes_one p q)
