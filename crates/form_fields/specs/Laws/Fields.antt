-- Laws that Theorems/Fields rests on.
use Rattle.std.specs.Prelude.{Bool, true, false, ◌&&◌, List, ◌≡◌, refl, ℕ, ◌+◌, ◌≤◌, leb, eqb, length}
use Rattle.std.proofs.Math.Bool.{and-eq-true_iff}
use Rattle.std.proofs.Common.{leb-true, eqb-true}
use Rattle.form_fields.specs.Words.{byte, word16}
use Rattle.form_fields.specs.Fields.{ends_well, field_at, sound_at}

-- ---- the equations a reader expects

-- A field that is there ends within the file.
pub field-ends : (file : List ℕ) (tag len at : ℕ) → field_at file tag len at ≡ true → at + 3 + len ≤ length file
unfolding field_at
field-ends file tag len at h =
    leb-true (at + 3 + len) (length file) ((and-eq-true_iff (leb (at + 3 + len) (length file)) (eqb (byte file at) tag)).0 ((and-eq-true_iff (leb (at + 3 + len)
    (length file) && eqb (byte file at) tag) (eqb (word16 file (at + 1)) len)).0 h).0).0

-- It has its tag.
pub field-tag : (file : List ℕ) (tag len at : ℕ) → field_at file tag len at ≡ true → byte file at ≡ tag
unfolding field_at
field-tag file tag len at h =
    eqb-true (byte file at) tag
    ((and-eq-true_iff (leb (at + 3 + len) (length file)) (eqb (byte file at) tag)).0
    ((and-eq-true_iff (leb (at + 3 + len) (length file) && eqb (byte file at) tag) (eqb (word16 file (at + 1)) len)).0 h).0
    ).1

-- And its length.
pub field-len : (file : List ℕ) (tag len at : ℕ) → field_at file tag len at ≡ true → word16 file (at + 1) ≡ len
unfolding field_at
field-len file tag len at h =
    eqb-true (word16 file (at + 1)) len
    ((and-eq-true_iff (leb (at + 3 + len) (length file) && eqb (byte file at) tag) (eqb (word16 file (at + 1)) len)).0 h).1

-- A sound field is there.
pub sound-field : (file : List ℕ) (tag len at : ℕ) → sound_at file tag len at ≡ true → field_at file tag len at ≡ true
unfolding sound_at
sound-field file tag len at h =
    ((and-eq-true_iff (field_at file tag len at) (ends_well tag (byte file (at + 1 + len)) (byte file (at + 2 + len)))).0 h).0

pub sound-ends : (file : List ℕ) (tag len at : ℕ) → sound_at file tag len at ≡ true → at + 3 + len ≤ length file
sound-ends file tag len at h = field-ends file tag len at (sound-field file tag len at h)

-- One test or the other.
pub by-test {ℓ} : {X : Type ℓ} (t : Bool) → (t ≡ true → X) → (t ≡ false → X) → X
by-test true y n = y refl
by-test false y n = n refl
