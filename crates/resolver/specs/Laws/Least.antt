-- Laws that Theorems/Least rests on.
use Prim.Native.Nat.{ℕ, zero, suc, ◌+◌, ◌<◌, ◌≤◌}
use Rattle.std.specs.Prelude.{◌≡◌, Bool, true, false, ◌⊎◌, leb}
use Rattle.std.proofs.Math.Path.{refl}
use Rattle.std.proofs.Common.{inl, inr, ⊎_elim, eq-or-lt_of_le, leb-true, leb-false}
use Rattle.std.proofs.Math.Nat.{le_refl}
use native.Mathlib.Omega.{arith}
use Rattle.prelude.specs.Laws.Bools.{unlike}
use Rattle.prelude.specs.Pick.{pick}
use Rattle.resolver.specs.Passes.{first}

-- a number is at most another, or past it
pub or-past : (a b : ℕ) → (a ≤ b) ⊎ (b < a)
or-past a b = go (leb a b) refl
  where
    go : (t : Bool) → leb a b ≡ t → (a ≤ b) ⊎ (b < a)
    go true e = inl (leb-true a b e)
    go false e = inr (leb-false a b e)

-- a test is not both
clash : {t : Bool} → t ≡ true → t ≡ false → ⊥
clash p q = unlike cc

-- the first of some numbers that passes a test
module _ (test : ℕ → Bool) where
  least_step : (from n p : ℕ) → (suc from ≤ p → p < first test (suc from) n → test p ≡ false) → (t : Bool) → test from ≡ t → from ≤ p
      → p < pick t from (first test (suc from) n) → test p ≡ false
  least_step from n p rest true e h g = absurd (let z : ⊥ = omega arith in z)
  least_step from n p rest false e h g =
      ⊎_elim (λ (q : from ≡ p). rw (← q) e) (λ (l : from < p). rest l g) (eq-or-lt_of_le h)

  -- none before it passes
  pub first-least : (from n p : ℕ) → from ≤ p → p < first test from n → test p ≡ false
  unfolding first
  first-least from zero p h g = absurd (let z : ⊥ = omega arith in z)
  first-least from (suc n) p h g = least_step from n p (first-least (suc from) n p) (test from) refl h g

  found-step : (from n : ℕ) → (first test (suc from) n < suc from + n → test (first test (suc from) n) ≡ true) → (t : Bool) → test from ≡ t
      → pick t from (first test (suc from) n) < from + suc n → test (pick t from (first test (suc from) n)) ≡ true
  found-step from n rest true e g = e
  found-step from n rest false e g = rest (omega arith)

  -- it passes, if it is one of them
  pub first_found : (from n : ℕ) → first test from n < from + n → test (first test from n) ≡ true
  unfolding first
  first_found from zero g = absurd (let z : ⊥ = omega arith in z)
  first_found from (suc n) g = found-step from n (first_found (suc from) n) (test from) refl g

  low_step : (from n : ℕ) → suc from ≤ first test (suc from) n → (t : Bool) → from ≤ pick t from (first test (suc from) n)
  low_step from n rest true = le_refl from
  low_step from n rest false = omega arith

  -- it is none before the first of them
  pub first-low : (from n : ℕ) → from ≤ first test from n
  unfolding first
  first-low from zero = le_refl from
  first-low from (suc n) = low_step from n (first-low (suc from) n) (test from)

  -- where none below k passes, it is k or more
  pub first-from : (from n k : ℕ) → k ≤ from + n → ((p : ℕ) → from ≤ p → p < k → test p ≡ false) → k ≤ first test from n
  first-from from n k h none =
      let no : first test from n < k → ⊥ = λ l. clash (first_found from n (omega arith)) (none (first test from n) (first-low from n) l) in
      omega arith

  -- where k passes and none before it, it is k
  pub first-at : (from n k : ℕ) → from ≤ k → k < from + n → ((p : ℕ) → from ≤ p → p < k → test p ≡ false) → test k ≡ true → first test from n ≡ k
  first-at from n k l h none e =
      let no : k < first test from n → ⊥ = λ g. clash e (first-least from n k l g) in
      omega (arith, first-from from n k (omega arith) none)
