-- Where there is no first, there is none.
use Rattle.std.specs.Prelude.{◌≡◌, ◌⊎◌, ℕ, zero, suc, ◌≤◌, ◌<◌}
use Rattle.std.proofs.Common.{subst, inl, inr, ⊎_elim, arith}
use Rattle.sort.specs.Laws.Sorted.{le-or-lt}
use Rattle.says.specs.Words.{First, FirstPair}

module _ (So : ℕ → Type 0) (no-first : (i : ℕ) → First So i → ⊥) where
  none-to : (n i : ℕ) → i < n → So i → ⊥
  none-to zero i h s = omega arith
  none-to (suc n) i h s =
      no-first i (record { so = s; none_below = λ k t. ⊎_elim (λ (l : i ≤ k). l) (λ (l : k < i). absurd (none-to n k (omega arith) t)) (le-or-lt i k) })

  pub none_at_all : (i : ℕ) → So i → ⊥
  none_at_all i s = none-to (suc i) i (omega arith) s

module _ (So : ℕ → ℕ → Type 0) (no-first : (i j : ℕ) → FirstPair So i j → ⊥) where
  beside : (i : ℕ) → ((c d : ℕ) → c < i → So c d → ⊥) → (n j : ℕ) → j < n → So i j → ⊥
  beside i below zero j h s = omega arith
  beside i below (suc n) j h s =
      no-first i j (record {
        so = s;
        none_before = λ c d t.
            ⊎_elim
            (λ (l : i ≤ c).
            ⊎_elim
            (λ (m : c ≤ i).
            let same : c ≡ i = omega arith in
            inr (
              omega arith,
              ⊎_elim (λ (k : j ≤ d). k)
                  (λ (k : d < j). absurd (beside i below n d (omega arith) (subst (λ (x : ℕ). So x d) same t))) (le-or-lt j d),
            ))
            (λ (m : i < c). inl m) (le-or-lt c i))
            (λ (l : c < i). absurd (below c d l t)) (le-or-lt i c);
      })

  pairs-to : (n i j : ℕ) → i < n → So i j → ⊥
  pairs-to zero i j h s = omega arith
  pairs-to (suc n) i j h s = beside i (λ c d l t. pairs-to n c d (omega arith) t) (suc j) j (omega arith) s

  pub no-pair-at-all : (i j : ℕ) → So i j → ⊥
  no-pair-at-all i j s = pairs-to (suc i) i j (omega arith) s
