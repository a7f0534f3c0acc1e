-- Uniqueness: the contract of each public function has one outcome, over its own clause.
use Rattle.prelude.specs.Laws.Outcome.{OneOutcome}
use Rattle.prelude.specs.Laws.Pick.{determined}
use Rattle.c_tables.proofs.make_banks.Kinds as make-banks-kinds
use Rattle.c_tables.proofs.make_banks.Reads as make-banks-reads
use Rattle.c_tables.proofs.choose.Kinds as choose-kinds
use Rattle.c_tables.proofs.choose.Reads as choose-reads

pub make-banks-unique : OneOutcome 7 make-banks-kinds.ps make-banks-kinds.r make-banks-reads.Learnt
make-banks-unique κs a x y e f p q = determined p q

pub choose-unique : OneOutcome 0 choose-kinds.ps choose-kinds.r choose-reads.Learnt
choose-unique κs a x y e f p q = determined p q
