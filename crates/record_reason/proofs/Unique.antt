-- Uniqueness over each public function's own contract: two answers that meet it for the same line or file are equal.
use mathlib.Core.List.{List}
use Prim.Native.Nat.{ℕ}
use Rattle.prelude.specs.Laws.Outcome.{OneOutcome, OneView}
use Rattle.prelude.specs.Laws.Pick.{determined, paired}
use Rattle.record_reason.specs.declared.Why.{Why}
use Rattle.record_reason.proofs.reason_of.Kinds as reason-of-kinds
use Rattle.record_reason.proofs.reason_of.Reads as reason-of-reads
use Rattle.record_reason.proofs.spelling.own_cause.Kinds as own-cause-kinds
use Rattle.record_reason.proofs.spelling.own_cause.Reads as own-cause-reads
use Rattle.record_reason.proofs.spelling.start_of.Kinds as start-of-kinds
use Rattle.record_reason.proofs.spelling.start_of.Reads as start-of-reads
use Rattle.record_reason.proofs.spelling.many_of.Kinds as many-of-kinds
use Rattle.record_reason.proofs.spelling.many_of.Reads as many-of-reads
use Rattle.record_reason.proofs.spelling.top_of.Kinds as top-of-kinds
use Rattle.record_reason.proofs.spelling.top_of.Reads as top-of-reads

-- the answer, and the scratch afterwards
pub reason-of-unique : OneView 2 reason-of-kinds.ps reason-of-kinds.r reason-of-reads.Learnt (Why × List ℕ) (λ κs x e. (x, e.1.1.1.0.now))
reason-of-unique κs a x y e f p q = paired (determined p.0 q.0) (determined p.1 q.1)

pub own-cause-unique : OneOutcome 1 own-cause-kinds.ps own-cause-kinds.r own-cause-reads.Learnt
own-cause-unique κs a x y e f p q = determined p q

pub start-of-unique : OneOutcome 1 start-of-kinds.ps start-of-kinds.r start-of-reads.Learnt
start-of-unique κs a x y e f p q = determined p.0 q.0

pub many-of-unique : OneOutcome 1 many-of-kinds.ps many-of-kinds.r many-of-reads.Learnt
many-of-unique κs a x y e f p q = determined p.0 q.0

pub top-of-unique : OneOutcome 1 top-of-kinds.ps top-of-kinds.r top-of-reads.Learnt
top-of-unique κs a x y e f p q = determined p.0 q.0
