-- Laws for the writing of fields: stores one behind the other, one field more, where a writing has come to.
use mathlib.Core.List.{List, [], ◌∷◌, ◌++◌, append-nil}
use mathlib.Core.Path.{◌≡◌, refl, sym, ap, ap₂, subst, ◌∙◌}
use Prim.Native.Nat.{ℕ, suc, ◌+◌, ◌*◌, ◌-◌, ◌<◌}
use native.Mathlib.Nat.{mul-add}
use native.Mathlib.Omega.{arith}
use lib.ListN.{length, set, length-append, length-replicate}
use lib.Seq.{sets}
use Rattle.form_fields.specs.Columns.{column}
use Rattle.form_fields.specs.Laws.Columns.{column-last}
use Rattle.form_fields.specs.Contents.{bytes16, field, flat}
use Rattle.form_fields.proofs.WholeLaws.{flat_append}
use Rattle.form_rewrite.specs.Turning.{zeros}
use Rattle.print_text.specs.Puts.{Writes}
use Rattle.print_text.specs.Laws.Sets.{writes_then}

-- ---- stores one behind the other

pub stores3 : (l : List ℕ) (e a b c : ℕ) → set (set (set l e a) (e + 1) b) (e + 2) c ≡ sets l e (a ∷ b ∷ c ∷ [])
stores3 l e a b c =
    let p : e + 1 ≡ suc e = omega arith in
    let q : e + 2 ≡ suc (suc e) = omega arith in
    ap₂ (λ (i j : ℕ). set (set (set l e a) i b) j c) p q

-- ---- a field

pub zeros-length : (n : ℕ) → length (zeros n) ≡ n
zeros-length n = length-replicate {A = ℕ} n 0

pub padded-length : (before behind : ℕ) (word : List ℕ) → length (zeros before ++ (word ++ zeros behind)) ≡ before + length word + behind
padded-length before behind word =
    omega (
      arith,
      length-append (zeros before) (word ++ zeros behind),
      length-append word (zeros behind),
      zeros-length before,
      zeros-length behind,
    )

pub header-field : (tag n : ℕ) (payload : List ℕ) → length payload ≡ n → (tag ∷ bytes16 n) ++ payload ≡ field tag payload
unfolding field
header-field tag n payload e = ap (λ (m : ℕ). tag ∷ (bytes16 m ++ payload)) (sym e)

pub header-length : (tag n : ℕ) → length (tag ∷ bytes16 n) ≡ 3
unfolding bytes16
header-length tag n = refl

pub field-none : (tag : ℕ) (payload : List ℕ) → field tag (zeros 0 ++ (payload ++ zeros 0)) ≡ field tag payload
field-none tag payload = ap (field tag) (append-nil payload)

-- a field with no zeros about its payload
pub bare-field : (tag : ℕ) (payload : List ℕ) {old new : List ℕ} {at end : ℕ} → Writes (field tag (zeros 0 ++ (payload ++ zeros 0))) old at end new
    → Writes (field tag payload) old at end new
bare-field tag payload {old} {new} {at} {end} w = subst (λ (l : List ℕ). Writes l old at end new) (field-none tag payload) w

-- one field more
flat-one : {X : Type 0} (write : X → List ℕ) (x : X) → flat write (x ∷ []) ≡ write x
unfolding flat
flat-one write x = append-nil (write x)

module _ (tag : ℕ) (what : ℕ → List ℕ) (step from : ℕ) where
  pub fields-none : {old : List ℕ} {at : ℕ} → Writes (flat (field tag) (column what step from 0)) old at at old
  unfolding flat column
  fields-none {old} {at} = record { place = omega arith; buffer = refl }

  pub fields-turn : (i : ℕ) {old mid new : List ℕ} {at end end' : ℕ} → Writes (flat (field tag) (column what step from i)) old at end mid
      → Writes (field tag (what (from + i * step))) mid end end' new → Writes (flat (field tag) (column what step from (i + 1))) old at end' new
  fields-turn i {old} {mid} {new} {at} {end} {end'} p q =
      let x = what (from + i * step) in
      let e : flat (field tag) (column what step from (i + 1)) ≡ flat (field tag) (column what step from i) ++ field tag x =
      ap (flat (field tag)) (column-last what step from i) ∙ flat_append (field tag) (column what step from i) (x ∷ [])
      ∙ ap (λ (l : List ℕ). flat (field tag) (column what step from i) ++ l) (flat-one (field tag) x) in
      subst (λ (l : List ℕ). Writes l old at end' new) (sym e) (writes_then p q)

-- ---- the bytes of the rows

-- five bytes more in each row
pub rows_more : (r n : ℕ) → r * (3 + (5 + 5 * n + 0)) ≡ r * (3 + 5 * n) + r * 5
rows_more r n = ap (λ (m : ℕ). r * m) {x = 3 + (5 + 5 * n + 0)} {y = 3 + 5 * n + 5} (omega arith) ∙ mul-add r (3 + 5 * n) 5

-- and five bytes less
pub rows-less : (r n : ℕ) → 0 < n → r * (3 + (0 + (5 * n - 5) + 0)) + r * 5 ≡ r * (3 + 5 * n)
rows-less r n h =
    let m = 3 + (0 + (5 * n - 5) + 0) in
    sym (mul-add r m 5) ∙ ap (λ (k : ℕ). r * k) {x = m + 5} {y = 3 + 5 * n} (omega arith)
