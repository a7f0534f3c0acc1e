-- A range of an image made ones. Ticket 6: "every bit of its range inside the image length .. takes the fill bit". The bits from `from` to
-- before `end` become ones, those that the image has; every other bit stays.
use Rattle.std.specs.Prelude.{◌≡◌, Bool, true, false, ◌&&◌, List, ℕ, ◌≤◌, ◌<◌, leb, ltb, length}
use Rattle.prelude.specs.Pick.{pick}
use Rattle.bitvec.specs.Bits.{bit_at, of_bits}

-- Bit k is one of those from `from` to before `end`.
unfoldable pub between : ℕ → ℕ → ℕ → Bool
between from end k = leb from k && ltb k end

-- Bit k of the image afterwards.
unfoldable pub ones_bit : List ℕ → ℕ → ℕ → ℕ → ℕ
ones_bit image from end k = pick (between from end k) 1 (bit_at image k)

-- The image afterwards.
unfoldable pub with_ones : List ℕ → ℕ → ℕ → List ℕ
with_ones image from end = of_bits (length image) (ones_bit image from end)

-- What a call leaves.
pub record SetsOnes (image : List ℕ) (from end : ℕ) (after : List ℕ) : Type 0 where
  pub bytes : after ≡ with_ones image from end

-- One of the bits from `from` to before `end` is a one,
pub record OneBetween (image : List ℕ) (from end : ℕ) : Type 0 where
  pub bit : ℕ
  pub low : from ≤ bit
  pub high : bit < end
  pub one : bit_at image bit ≡ 1

-- or all of them are zeros.
pub record AnyOne (image : List ℕ) (from end : ℕ) (r : Bool) : Type 0 where
  pub some : r ≡ true → OneBetween image from end
  pub none : r ≡ false → (k : ℕ) → from ≤ k → k < end → bit_at image k ≡ 0
