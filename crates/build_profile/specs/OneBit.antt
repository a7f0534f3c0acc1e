-- "exactly one bit set": a count of ones equal to 1, and that this is what the words say.
use Rattle.std.specs.Prelude.{ℕ, ◌/◌, ◌%◌, ◌^◌, ◌≡◌, Bool, eqb}
use Rattle.std.specs.Int.Count.{ones}

-- "must have exactly one bit set": the count of ones is 1
abbrev pub one_bit : ℕ → Bool
one_bit n = eqb (ones n) 1

-- bit k of a number, from the lowest on
abbrev pub bit : ℕ → ℕ → ℕ
bit n k = n / 2 ^ k % 2

-- bit k is set, and no other
pub record OneSet (n k : ℕ) : Type 0 where
  pub is : bit n k ≡ 1
  pub alone : (j : ℕ) → bit n j ≡ 1 → j ≡ k

-- "exactly one bit set"
abbrev pub ExactlyOne : ℕ → Type 0
ExactlyOne n = (k : ℕ) × OneSet n k
