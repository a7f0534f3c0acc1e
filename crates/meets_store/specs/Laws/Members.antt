-- Members of a list by their index.
use Rattle.std.specs.Prelude.{◌≡◌, refl, ℕ, zero, suc, ◌<◌, length, get_or}
use Rattle.std.proofs.Common.{sym, ⊎_elim, arith}
use mathlib.Core.List.Memᴰ
use mathlib.Core.List.{List, [], ◌∷◌, Memᴰ}

module _ {A : Type 0} (d : A) where
  pub member-at : (l : List A) (i : ℕ) → i < length l → Memᴰ (get_or l i d) l
  member-at [] i m = absurd (omega arith)
  member-at (f ∷ l) zero m = Memᴰ.head refl
  member-at (f ∷ l) (suc i) m = Memᴰ.tail (member-at l i (omega arith))

  pub index_of : (g : A) (l : List A) → Memᴰ g l → (i : ℕ) × (i < length l) × (get_or l i d ≡ g)
  index_of g [] m = absurd (Memᴰ.not-nil m)
  index_of g (f ∷ l) m =
      ⊎_elim (λ same. (0, omega arith, sym same)) (λ rest. let (i, h, e) = index_of g l rest in (suc i, omega arith, e))
      (Memᴰ.cases_cons m)
