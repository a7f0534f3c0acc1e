-- The distance is what a reader expects of it, on both sides of 0: the least number of bits that brings the address to a multiple of the
-- alignment. And 4 is given exactly where a bank's addresses cannot be told.
use Rattle.std.specs.Prelude.{ℕ, ◌≤◌, ◌<◌, ◌≡◌, ℤ, pos, ◌+ℤ◌, ◌*ℤ◌}

-- d bits from the address z bring it to a multiple of a; they are fewer than a, and no fewer bits do
pub record Aligns (z : ℤ) (a d : ℕ) : Type 0 where
  pub below : d < a
  pub times : ℤ
  pub multiple : z +ℤ pos d ≡ times *ℤ pos a
  pub least : (e : ℕ) (k : ℤ) → z +ℤ pos e ≡ k *ℤ pos a → d ≤ e

-- r is z less a multiple of a, and from 0 to a - 1
pub record Remains (z : ℤ) (a r : ℕ) : Type 0 where
  pub below : r < a
  pub times : ℤ
  pub rest : z ≡ (times *ℤ pos a) +ℤ pos r
