-- Uniqueness: the contract of each public function has one outcome, over its own clause: the answer, and all that is lent afterwards.
use Rattle.std.specs.Prelude.{Result}
use Prim.Native.Nat.{ℕ, ◌≤◌, ◌<◌}
use mathlib.Core.Bool.{Bool, true, false}
use mathlib.Core.List.{List}
use mathlib.Core.Path.{◌≡◌, refl}
use native.Mathlib.Omega.{arith}
use Rattle.prelude.specs.Laws.Outcome.{OneOutcome, OneView}
use Rattle.prelude.specs.Laws.Pick.{determined, paired}
use Rattle.prelude.specs.Verdict.{Verdict}
use Rattle.prelude.specs.declared.Refusal.{Refusal}
use Rattle.bitvec.specs.Bits.{bit_at}
use Rattle.bitvec.specs.Ones.{OneBetween, AnyOne}
use Rattle.bitvec.proofs.clear.Kinds as clear-kinds
use Rattle.bitvec.proofs.clear.Reads as clear_reads
use Rattle.bitvec.proofs.set_ones.Kinds as set-ones-kinds
use Rattle.bitvec.proofs.set_ones.Reads as set-ones-reads
use Rattle.bitvec.proofs.any_one.Kinds as any-one-kinds
use Rattle.bitvec.proofs.any_one.Reads as any-one-reads
use Rattle.bitvec.proofs.write_bits.Kinds as write-bits-kinds
use Rattle.bitvec.proofs.write_bits.Reads as write-bits-reads
use Rattle.bitvec.proofs.part.Kinds as part-kinds
use Rattle.bitvec.proofs.part.Reads as part-reads
use Rattle.bitvec.proofs.part_verdict.Kinds as part-verdict-kinds
use Rattle.bitvec.proofs.part_verdict.Reads as part-verdict-reads
use Rattle.bitvec.proofs.write_hex.Kinds as write-hex-kinds
use Rattle.bitvec.proofs.write_hex.Reads as write-hex-reads

-- the image afterwards
pub clear-unique : OneView 1 clear-kinds.ps clear-kinds.r clear_reads.Learnt (List ℕ) (λ κs x e. e.0.now)
clear-unique κs a x y e f p q = determined p.zeros q.zeros

-- the image afterwards
pub set-ones-unique : OneView 1 set-ones-kinds.ps set-ones-kinds.r set-ones-reads.Learnt (List ℕ) (λ κs x e. e.0.now)
set-ones-unique κs a x y e f p q = determined p.bytes q.bytes

one-or-none : (image : List ℕ) (from end : ℕ) → OneBetween image from end → ((k : ℕ) → from ≤ k → k < end → bit_at image k ≡ 0) → ⊥
one-or-none image from end o z = let n = z o.bit o.low o.high in omega (arith, n, o.one)

one_answer : (image : List ℕ) (from end : ℕ) (r s : Bool) → AnyOne image from end r → AnyOne image from end s → r ≡ s
one_answer image from end true true p q = refl
one_answer image from end true false p q = absurd (one-or-none image from end (p.some refl) (q.none refl))
one_answer image from end false true p q = absurd (one-or-none image from end (q.some refl) (p.none refl))
one_answer image from end false false p q = refl

pub any-one-unique : OneOutcome 1 any-one-kinds.ps any-one-kinds.r any-one-reads.Learnt
any-one-unique κs a x y e f p q = one_answer a.0.now a.1.0 a.1.1.0 x y p q

-- the answer, and the image afterwards
pub write-bits-unique : OneView 2 write-bits-kinds.ps write-bits-kinds.r write-bits-reads.Learnt ((Verdict) × List ℕ) (λ κs x e. (x, e.0.now))
write-bits-unique κs a x y e f p q = paired (determined p.answer q.answer) (determined p.bytes q.bytes)

-- the bytes of the part
pub part-unique : OneView 1 part-kinds.ps part-kinds.r part-reads.Learnt (List ℕ) (λ κs x e. x.now)
part-unique κs a x y e f p q = determined p.bytes q.bytes

pub part-verdict-unique : OneOutcome 1 part-verdict-kinds.ps part-verdict-kinds.r part-verdict-reads.Learnt
part-verdict-unique κs a x y e f p q = determined p.answer q.answer

-- the answer, and the hex digits afterwards
pub write-hex-unique : OneView 2 write-hex-kinds.ps write-hex-kinds.r write-hex-reads.Learnt ((Result ℕ Refusal) × List ℕ) (λ κs x e. (x, e.1.1.0.now))
write-hex-unique κs a x y e f p q = paired (determined p.answer q.answer) (determined p.digits q.digits)
