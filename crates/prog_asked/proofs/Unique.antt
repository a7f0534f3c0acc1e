-- Uniqueness: the contract has one outcome, over its own clause. `Learnt` is what the check reads off its `ensures`.
use Rattle.prelude.specs.Laws.Outcome.{OneOutcome}
use Rattle.prelude.specs.Laws.Pick.{determined}
use Rattle.prog_asked.proofs.choice.Kinds as choice-kinds
use Rattle.prog_asked.proofs.choice.Reads as choice-reads

pub choice-unique : OneOutcome 0 choice-kinds.ps choice-kinds.r choice-reads.Learnt
choice-unique κs a x y e f p q = determined p q
