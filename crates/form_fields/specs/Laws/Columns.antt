-- Laws that proofs about Columns need.
use Rattle.std.specs.Prelude.{◌≡◌, length, get_or, set}
use Rattle.std.proofs.Math.Path.{refl, ap}
use Rattle.std.proofs.Common.{sym, ◌∙◌, add-one, arith}
use mathlib.Core.List.{List, [], ◌∷◌, ◌++◌}
use Prim.Native.Nat.{ℕ, zero, suc, ◌+◌, ◌*◌, ◌≤◌, ◌<◌}
use Rattle.std.proofs.lemmas.List.{set_at}
use Rattle.std.proofs.Math.Seq.{append_snoc, paste, paste-suc}
use Rattle.form_fields.specs.Columns.{column}

module _ {A : Type 0} (read : ℕ → A) (step : ℕ) where
  pub column-length : (at n : ℕ) → length (column read step at n) ≡ n
  unfolding column
  column-length at zero = refl
  column-length at (suc n) = ap suc (column-length (at + step) n)

  pub column-last : (at n : ℕ) → column read step at (n + 1) ≡ column read step at n ++ (read (at + n * step) ∷ [])
  unfolding column
  column-last at zero = ap (λ (k : ℕ). read k ∷ []) (omega arith)
  column-last at (suc n) =
      ap (λ (k : ℕ). column read step at k) (add-one (suc n))
      ∙ ap (λ (l : List A). read at ∷ l) (ap (λ (k : ℕ). column read step (at + step) k) (sym (add-one n)) ∙ column-last (at + step) n)
      ∙ ap (λ (k : ℕ). read at ∷ (column read step (at + step) n ++ (read k ∷ []))) (omega arith)

  pub column-at : (d : A) (at n i : ℕ) → i < n → get_or (column read step at n) i d ≡ read (at + i * step)
  unfolding column
  column-at d at zero i h = absurd (omega arith)
  column-at d at (suc n) zero h = ap read (omega arith)
  column-at d at (suc n) (suc i) h = column-at d (at + step) n i (omega arith) ∙ ap read (omega arith)

  -- a loop that writes the column into a list from `from` on, one thing a turn
  pub column-turn : (z : A) (l : List A) (from at n i : ℕ) → from + n ≤ length l → i < n
      → set (paste l from (column read step at n) i) (from + i) (read (at + i * step)) ≡ paste l from (column read step at n) (i + 1)
  column-turn z l from at n i room h =
      ap (λ (v : A). set (paste l from (column read step at n) i) (from + i) v) (sym (column-at z at n i h))
      ∙ paste-suc l from (column read step at n) i z (omega arith) (omega (arith, column-length at n))
      ∙ ap (λ (k : ℕ). paste l from (column read step at n) k) (sym (add-one i))

  -- the next thing takes the place of the first that stands behind the column
  pub column-set : (at n : ℕ) (y : A) (ys : List A)
      → set (column read step at n ++ (y ∷ ys)) n (read (at + n * step)) ≡ column read step at (n + 1) ++ ys
  column-set at n y ys =
      set_at (column read step at n) y ys (read (at + n * step)) n (column-length at n)
      ∙ sym (append_snoc (column read step at n) (read (at + n * step)) ys)
      ∙ ap (λ (l : List A). l ++ ys) (sym (column-last at n))
