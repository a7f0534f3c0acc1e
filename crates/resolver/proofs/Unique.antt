-- Uniqueness: each public function's own contract has one outcome. What is read here is the `ensures` itself, so that a looser clause breaks its
-- line. Nothing is lent to be changed, so the outcome is the answer.
use Rattle.prelude.specs.Laws.Pick.{determined}
use Rattle.prelude.specs.Laws.Outcome.{OneOutcome}
use Rattle.resolver.proofs.once.bank_record.Kinds as bank-record-kinds
use Rattle.resolver.proofs.once.bank_record.Reads as bank-record-reads
use Rattle.resolver.proofs.passes.resolve.Kinds as resolve-kinds
use Rattle.resolver.proofs.passes.resolve.Reads as resolve-reads

pub bank-record-unique : OneOutcome 0 bank-record-kinds.ps bank-record-kinds.r bank-record-reads.Learnt
bank-record-unique κs a x y e f p q = determined p q

pub resolve-unique : OneOutcome 5 resolve-kinds.ps resolve-kinds.r resolve-reads.Learnt
resolve-unique κs a x y e f p q = determined p.0 q.0
