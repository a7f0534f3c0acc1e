-- Uniqueness: the contract of each public function has one outcome, over its own clause.
use Rattle.prelude.specs.Laws.Outcome.{OneOutcome}
use Rattle.prelude.specs.Laws.Pick.{determined}
use Rattle.prelude.proofs.both.Kinds as both-kinds
use Rattle.prelude.proofs.both.Reads as both-reads
use Rattle.prelude.proofs.greater.Kinds as greater-kinds
use Rattle.prelude.proofs.greater.Reads as greater-reads
use Rattle.prelude.proofs.lesser.Kinds as lesser-kinds
use Rattle.prelude.proofs.lesser.Reads as lesser-reads
use Rattle.prelude.proofs.number.Kinds as number-kinds
use Rattle.prelude.proofs.number.Reads as number-reads
use Rattle.prelude.proofs.place_of.Kinds as place-of-kinds
use Rattle.prelude.proofs.place_of.Reads as place-of-reads

pub number-unique : OneOutcome 0 number-kinds.ps number-kinds.r number-reads.Learnt
number-unique κs a x y e f p q = determined p q

pub place-of-unique : OneOutcome 0 place-of-kinds.ps place-of-kinds.r place-of-reads.Learnt
place-of-unique κs a x y e f p q = determined p q

pub greater-unique : OneOutcome 0 greater-kinds.ps greater-kinds.r greater-reads.Learnt
greater-unique κs a x y e f p q = determined p q

pub lesser-unique : OneOutcome 0 lesser-kinds.ps lesser-kinds.r lesser-reads.Learnt
lesser-unique κs a x y e f p q = determined p q

pub both-unique : OneOutcome 0 both-kinds.ps both-kinds.r both-reads.Learnt
both-unique κs a x y e f p q = determined p q
