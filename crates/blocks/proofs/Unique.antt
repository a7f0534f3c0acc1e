-- Uniqueness: the contract of each public function has one outcome, over its own clause: the answer, and all that is lent afterwards.
use Rattle.std.specs.Prelude.{Result}
use Prim.Native.Nat.{ℕ}
use native.Mathlib.Omega.{arith}
use mathlib.Core.List.{List}
use Rattle.prelude.specs.Laws.Outcome.{OneOutcome, OneView}
use Rattle.prelude.specs.Laws.Pick.{determined, paired}
use Rattle.prelude.specs.declared.Refusal.{Refusal}
use Rattle.blocks.proofs.get_blocks.Kinds as get-blocks-kinds
use Rattle.blocks.proofs.get_blocks.Reads as get-blocks-reads
use Rattle.blocks.proofs.offset_of.Kinds as offset-of-kinds
use Rattle.blocks.proofs.offset_of.Reads as offset-of-reads
use Rattle.blocks.proofs.push.Kinds as push-kinds
use Rattle.blocks.proofs.push.Reads as push-reads
use Rattle.blocks.proofs.word_of.Kinds as word-of-kinds
use Rattle.blocks.proofs.word_of.Reads as word-of-reads

pub offset-of-unique : OneOutcome 0 offset-of-kinds.ps offset-of-kinds.r offset-of-reads.Learnt
offset-of-unique κs a x y e f p q = determined p q

pub word-of-unique : OneOutcome 0 word-of-kinds.ps word-of-kinds.r word-of-reads.Learnt
word-of-unique κs a x y e f p q = determined p q

-- the answer, and the offsets and the sizes of the blocks afterwards
pub push-unique : OneView 2 push-kinds.ps push-kinds.r push-reads.Learnt (ℕ × (List ℕ × List ℕ))
    (λ κs x e. (x, (e.1.1.1.0.now, e.1.1.1.1.0.now)))
push-unique κs a x y e f p q =
    paired (omega (arith, p.0.counted, q.0.counted)) (paired (determined p.0.first q.0.first) (determined p.0.second q.0.second))

pub get-blocks-unique : OneView 4 get-blocks-kinds.ps get-blocks-kinds.r get-blocks-reads.Learnt ((Result ℕ Refusal) × (List ℕ × List ℕ))
    (λ κs x e. (x, (e.1.1.0.now, e.1.1.1.0.now)))
get-blocks-unique κs a x y e f p q =
    paired (determined p.answer q.answer) (paired (determined p.first q.first) (determined p.second q.second))
