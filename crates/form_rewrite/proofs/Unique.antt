-- Uniqueness: the contract of each public function has one outcome, over its own clause: the answer, and all that is lent afterwards.
use Prim.Native.Nat.{ℕ}
use mathlib.Core.List.{List}
use Rattle.prelude.specs.Laws.Outcome.{OneView}
use Rattle.prelude.specs.Laws.Pick.{determined, paired}
use Rattle.form_rewrite.proofs.write1.Kinds as write1-kinds
use Rattle.form_rewrite.proofs.write1.Reads as write1-reads
use Rattle.form_rewrite.proofs.write2.Kinds as write2-kinds
use Rattle.form_rewrite.proofs.write2.Reads as write2-reads

-- where the file ends, and the buffer afterwards
pub write2-unique : OneView 2 write2-kinds.ps write2-kinds.r write2-reads.Learnt (ℕ × List ℕ) (λ κs x e. (x, e.1.1.0.now))
write2-unique κs a x y e f p q = paired (determined p.place q.place) (determined p.buffer q.buffer)

pub write1-unique : OneView 2 write1-kinds.ps write1-kinds.r write1-reads.Learnt (ℕ × List ℕ) (λ κs x e. (x, e.1.1.1.0.now))
write1-unique κs a x y e f p q = paired (determined p.place q.place) (determined p.buffer q.buffer)
