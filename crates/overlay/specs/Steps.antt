-- What two steps of the code answer about the blocks.
use Rattle.std.specs.Prelude.{◌≡◌, List, ℕ, ◌+◌, ◌*◌, ◌≤◌, ◌<◌, length, get_or}

-- r blocks end at or before byte `first`.
pub record Finds (os ss : List ℕ) (first r : ℕ) : Type 0 where
  pub few : r ≤ length os
  pub below : (i : ℕ) → i < r → get_or os i 0 + get_or ss i 0 ≤ 8 * first
  pub past : (i : ℕ) → r ≤ i → i < length os → 8 * first < get_or os i 0 + get_or ss i 0

-- The blocks from `at` to `last` touch one another, and the next does not.
pub record Chain (os ss : List ℕ) (at last : ℕ) : Type 0 where
  pub from : at ≤ last
  pub one : last < length os
  pub touching : (i : ℕ) → at ≤ i → i < last → get_or os i 0 + get_or ss i 0 ≡ get_or os (i + 1) 0
  pub broken : last + 1 < length os → get_or os last 0 + get_or ss last 0 ≡ get_or os (last + 1) 0 → ⊥
