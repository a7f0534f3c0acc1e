-- Laws that Theorems/Kind rests on.
use Rattle.std.specs.Prelude.{true, List, ◌≡◌, ℕ, ◌*◌, ◌≤◌, ◌<◌, eqb, length}
use Rattle.std.proofs.Common.{arith}
use Rattle.prelude.specs.Laws.Bools.{both}
use Rattle.form_fields.specs.declared.Kind.{Kind}
use Rattle.form_fields.specs.Fields.{field_at}
use Rattle.form_fields.specs.Laws.Fields.{field-ends}
use Rattle.form_fields.specs.Words.{byte}
use Rattle.form_fields.specs.Kind.{Known, begins2, headed, is1, is2}

pub known-heads : {k : Kind} → Known k → k.heads ≤ 1
known-heads is1 = omega arith
known-heads is2 = omega arith

pub known-bank : {k : Kind} → Known k → (23 ≤ k.bank) × (k.bank ≤ 24)
known-bank is1 = (omega arith, omega arith)
known-bank is2 = (omega arith, omega arith)

pub known-longest : {k : Kind} → Known k → k.longest ≤ 65536
known-longest is1 = omega arith
known-longest is2 = omega arith

-- no other field has a bank's tag
pub known-apart : {k : Kind} → Known k → (t : ℕ) → 1 < t → t < 6 → k.tag ≡ t → ⊥
known-apart is1 t a b e = omega (arith, e)
known-apart is2 t a b e = omega (arith, e)

-- a file that begins as it should has room for the head
begins-long : (file : List ℕ) → begins2 file ≡ true → 4 ≤ length file
unfolding begins2
begins-long file h = omega (arith, field-ends file 16 1 0 (both (field_at file 16 1 0) (eqb (byte file 3) 2) h).0)

pub head-within : {k : Kind} → Known k → (file : List ℕ) → headed k file ≡ true → k.heads * 4 ≤ length file
head-within is1 file h = omega arith
head-within is2 file h = omega (arith, begins-long file h)
