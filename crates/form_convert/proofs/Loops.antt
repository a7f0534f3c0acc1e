-- A loop over a column against the definitions' recursion on it: a search for the first that passes a test, and a test of all. Assumes nothing.
use mathlib.Core.Bool.{Bool, true, false}
use mathlib.Core.List.{List, ◌∷◌}
use mathlib.Core.Path.{◌≡◌, refl, ap, ◌∙◌}
use Prim.Native.Nat.{ℕ, suc, ◌+◌, ◌*◌, ◌-◌, ◌<◌}
use native.Mathlib.Omega.{arith}
use Rattle.bankdef.specs.Search.{first_where}
use Rattle.form_fields.specs.Columns.{column}
use Rattle.form_rewrite.specs.Turning.{all_of}

module _ {A : Type 0} (test : A → Bool) (read : ℕ → A) (step from count : ℕ) where
  next : (i : ℕ) → i < count → column read step (from + i * step) (count - i) ≡ read (from + i * step) ∷ column read step (from + (i + 1) * step)
      (count - (i + 1))
  unfolding column
  next i h =
      let e : count - i ≡ suc (count - (i + 1)) = omega arith in
      let p : from + i * step + step ≡ from + (i + 1) * step = omega arith in
      ap (column read step (from + i * step)) e
      ∙ ap (λ (a : ℕ). read (from + i * step) ∷ column read step a (count - (i + 1))) p

  -- the first that passes, counted from i on
  abbrev left : ℕ → ℕ
  left i = first_where test (column read step (from + i * step) (count - i))

  pub search-on : (i : ℕ) {k : ℕ} → i < count → test (read (from + i * step)) ≡ false → k ≡ i + left i → k ≡ i + 1 + left (i + 1)
  unfolding first_where
  search-on i {k} h e q =
      let q' : k ≡ i + suc (left (i + 1)) = rw (next i h, e) at q in
      omega arith

  -- whether all from i on pass
  abbrev others : ℕ → Bool
  others i = all_of test (column read step (from + i * step) (count - i))

  pub all-on : (i : ℕ) {t : Bool} → i < count → test (read (from + i * step)) ≡ true → t ≡ others i → t ≡ others (i + 1)
  unfolding all_of
  all-on i h e q = q ∙ rw (next i h, e) refl
