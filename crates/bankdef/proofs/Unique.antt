-- Uniqueness: the contract of each public function has one outcome, over its own clause.
use Rattle.prelude.specs.Laws.Outcome.{OneOutcome}
use Rattle.prelude.specs.Laws.Pick.{determined}
use Rattle.bankdef.proofs.check.Kinds as check-kinds
use Rattle.bankdef.proofs.check.Reads as check-reads
use Rattle.bankdef.proofs.fill_length.Kinds as fill-length-kinds
use Rattle.bankdef.proofs.fill_length.Reads as fill-length-reads
use Rattle.bankdef.proofs.magnitude.Kinds as magnitude-kinds
use Rattle.bankdef.proofs.magnitude.Reads as magnitude-reads

pub magnitude-unique : OneOutcome 0 magnitude-kinds.ps magnitude-kinds.r magnitude-reads.Learnt
magnitude-unique κs a x y e f p q = determined p q

pub check-unique : OneOutcome 0 check-kinds.ps check-kinds.r check-reads.Learnt
check-unique κs a x y e f p q = determined p.0 q.0

pub fill-length-unique : OneOutcome 0 fill-length-kinds.ps fill-length-kinds.r fill-length-reads.Learnt
fill-length-unique κs a x y e f p q = determined p.0 q.0
