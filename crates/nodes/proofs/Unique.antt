-- Uniqueness: each public function's own contract has one outcome. What is read here is the `ensures` itself, so that a looser clause breaks its
-- line. Nothing is lent to be changed, so the outcome is the answer.
use Rattle.prelude.specs.Laws.Pick.{determined}
use Rattle.prelude.specs.Laws.Outcome.{OneOutcome}
use Rattle.nodes.proofs.node_at.Kinds as node-at-kinds
use Rattle.nodes.proofs.node_at.Reads as node-at-reads
use Rattle.nodes.proofs.check_lists.Kinds as check-lists-kinds
use Rattle.nodes.proofs.check_lists.Reads as check-lists-reads
use Rattle.nodes.proofs.kinds.does.Kinds as does-kinds
use Rattle.nodes.proofs.kinds.does.Reads as does-reads
use Rattle.nodes.proofs.kinds.is_unknown.Kinds as is-unknown-kinds
use Rattle.nodes.proofs.kinds.is_unknown.Reads as is-unknown-reads
use Rattle.nodes.proofs.kinds.reads_state.Kinds as reads-state-kinds
use Rattle.nodes.proofs.kinds.reads_state.Reads as reads-state-reads
use Rattle.nodes.proofs.kinds.is_written.Kinds as is-written-kinds
use Rattle.nodes.proofs.kinds.is_written.Reads as is-written-reads
use Rattle.nodes.proofs.kinds.is_span.Kinds as is-span-kinds
use Rattle.nodes.proofs.kinds.is_span.Reads as is-span-reads
use Rattle.nodes.proofs.kinds.is_placed.Kinds as is-placed-kinds
use Rattle.nodes.proofs.kinds.is_placed.Reads as is-placed-reads
use Rattle.nodes.proofs.kinds.size_of.Kinds as size-of-kinds
use Rattle.nodes.proofs.kinds.size_of.Reads as size-of-reads

pub node-at-unique : OneOutcome 5 node-at-kinds.ps node-at-kinds.r node-at-reads.Learnt
node-at-unique κs a x y e f p q = determined p q

pub check-lists-unique : OneOutcome 5 check-lists-kinds.ps check-lists-kinds.r check-lists-reads.Learnt
check-lists-unique κs a x y e f p q = determined p.0 q.0

pub does-unique : OneOutcome 0 does-kinds.ps does-kinds.r does-reads.Learnt
does-unique κs a x y e f p q = determined p q

pub is-unknown-unique : OneOutcome 0 is-unknown-kinds.ps is-unknown-kinds.r is-unknown-reads.Learnt
is-unknown-unique κs a x y e f p q = determined p q

pub reads-state-unique : OneOutcome 0 reads-state-kinds.ps reads-state-kinds.r reads-state-reads.Learnt
reads-state-unique κs a x y e f p q = determined p q

pub is-written-unique : OneOutcome 0 is-written-kinds.ps is-written-kinds.r is-written-reads.Learnt
is-written-unique κs a x y e f p q = determined p q

pub is-span-unique : OneOutcome 0 is-span-kinds.ps is-span-kinds.r is-span-reads.Learnt
is-span-unique κs a x y e f p q = determined p q

pub is-placed-unique : OneOutcome 0 is-placed-kinds.ps is-placed-kinds.r is-placed-reads.Learnt
is-placed-unique κs a x y e f p q = determined p q

pub size-of-unique : OneOutcome 0 size-of-kinds.ps size-of-kinds.r size-of-reads.Learnt
size-of-unique κs a x y e f p q = determined p q
