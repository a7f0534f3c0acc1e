-- Where there is no first number that is so, none is.
use Rattle.std.specs.Prelude.{ℕ, zero, suc, ◌<◌}
use Rattle.std.proofs.Common.{⊎_elim, arith}
use Rattle.sort.specs.Laws.Sorted.{le-or-lt}
use Rattle.says.specs.Words.{First}

module _ (So : ℕ → Type 0) (none : (i : ℕ) → First So i → ⊥) where
  none_below : (n i : ℕ) → i < n → So i → ⊥
  none_below zero i h so = omega arith
  none_below (suc n) i h so =
      none i (record { so = so; none_below = λ k s. ⊎_elim (λ le. le) (λ lt. absurd (none_below n k (omega arith) s)) (le-or-lt i k) })

  pub none_so : (i : ℕ) → So i → ⊥
  none_so i so = none_below (suc i) i (omega arith) so
