-- Uniqueness: each contract has one outcome, over its own clause: the answer, and the lent text afterwards.
use Rattle.std.specs.Prelude.{Result}
use Rattle.std.proofs.Common.{ℕ, List}
use Rattle.prelude.specs.Laws.Outcome.{OneView}
use Rattle.prelude.specs.Laws.Pick.{determined, paired}
use Rattle.prelude.specs.declared.Refusal.{Refusal}
use Rattle.record_write.proofs.write.Kinds as write-kinds
use Rattle.record_write.proofs.write.Reads as write-reads
use Rattle.record_write.proofs.write_ihex.Kinds as write-ihex-kinds
use Rattle.record_write.proofs.write_ihex.Reads as write-ihex-reads
use Rattle.record_write.proofs.write_srec.Kinds as write-srec-kinds
use Rattle.record_write.proofs.write_srec.Reads as write-srec-reads
use Rattle.record_write.proofs.line.put_piece.Kinds as put-piece-kinds
use Rattle.record_write.proofs.line.put_piece.Reads as put-piece-reads
use Rattle.record_write.proofs.line.put_end.Kinds as put-end-kinds
use Rattle.record_write.proofs.line.put_end.Reads as put-end-reads

pub write-unique : OneView 4 write-kinds.ps write-kinds.r write-reads.Learnt ((Result ℕ Refusal) × List ℕ) (λ κs x e. (x, e.1.1.1.1.1.0.now))
write-unique κs a x y e f p q = paired (determined p.answer q.answer) (determined p.lent q.lent)

pub write-ihex-unique : OneView 4 write-ihex-kinds.ps write-ihex-kinds.r write-ihex-reads.Learnt ((Result ℕ Refusal) × List ℕ)
    (λ κs x e. (x, e.1.1.1.1.0.now))
write-ihex-unique κs a x y e f p q = paired (determined p.writes.answer q.writes.answer) (determined p.writes.lent q.writes.lent)

pub write-srec-unique : OneView 4 write-srec-kinds.ps write-srec-kinds.r write-srec-reads.Learnt ((Result ℕ Refusal) × List ℕ)
    (λ κs x e. (x, e.1.1.1.1.1.0.now))
write-srec-unique κs a x y e f p q = paired (determined p.answer q.answer) (determined p.lent q.lent)

-- the length of the lines, and the part that they were written into
pub put-piece-unique : OneView 2 put-piece-kinds.ps put-piece-kinds.r put-piece-reads.Learnt (ℕ × List ℕ) (λ κs x e. (x, e.1.0.now))
put-piece-unique κs a x y e f p q = paired (determined p.long q.long) (determined p.part q.part)

pub put-end-unique : OneView 1 put-end-kinds.ps put-end-kinds.r put-end-reads.Learnt (ℕ × List ℕ) (λ κs x e. (x, e.1.0.now))
put-end-unique κs a x y e f p q = paired (determined p.long q.long) (determined p.part q.part)
