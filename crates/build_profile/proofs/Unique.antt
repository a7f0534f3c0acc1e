-- Uniqueness: the contract of the profile call has one outcome, over its own clause. Nothing is lent to be changed, so the outcome is the answer.
use Rattle.prelude.specs.Laws.Outcome.{OneOutcome}
use Rattle.prelude.specs.Laws.Pick.{determined}
use Rattle.build_profile.proofs.check_profile.Kinds as check-profile-kinds
use Rattle.build_profile.proofs.check_profile.Reads as check-profile-reads

pub check-profile-unique : OneOutcome 5 check-profile-kinds.ps check-profile-kinds.r check-profile-reads.Learnt
check-profile-unique κs a x y e f p q = determined p.answer q.answer
