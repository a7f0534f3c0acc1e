-- What a rule over some banks or nodes comes to: all keep it, or the first that does not is named.
use Rattle.std.specs.Prelude.{ℕ, ◌<◌}

-- ---- a rule by what it says, where the test tells just that

-- what is said of each of n
abbrev pub Every : (ℕ → Type 0) → ℕ → Type 0
Every P n = (k : ℕ) → k < n → P k

-- k is the first of n of which it does not hold
pub record First (P : ℕ → Type 0) (n k : ℕ) : Type 0 where
  pub listed : k < n
  pub breaks : P k → ⊥
  pub before : Every P k
