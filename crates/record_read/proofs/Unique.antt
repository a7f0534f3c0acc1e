-- Uniqueness over the public function's own contract: the answer, and all that is lent afterwards.
use Rattle.std.specs.Prelude.{Result, ℕ}
use Rattle.prelude.specs.Laws.Outcome.{OneView}
use Rattle.prelude.specs.Laws.Pick.{determined, paired}
use Rattle.prelude.specs.declared.Refusal.{Refusal}
use Rattle.record_read.specs.Outcome.{Lent, lent}
use Rattle.record_read.proofs.read.Kinds as read-kinds
use Rattle.record_read.proofs.read.Reads as read-reads

pub read-unique : OneView 5 read-kinds.ps read-kinds.r read-reads.Learnt ((Result ℕ Refusal) × Lent)
    (λ κs x e. (x, lent e.1.1.1.0.now e.1.1.1.1.0.now e.1.1.1.1.1.0.now e.1.1.1.1.1.1.0.now))
read-unique κs a x y e f p q = paired (determined p.answer q.answer) (determined p.after q.after)
