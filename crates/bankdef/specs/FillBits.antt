-- Ticket 6: which bits of an image take a fill bit, and which. "In a bank other than bank 0 with fill, size and offset, every bit of its range
-- inside the image length that belongs to no written item takes the fill bit, reserved bits too." Here the range and the bit; the image
-- length and the items are the build's.
use Rattle.std.specs.Prelude.{◌≡◌, Bool, true, false, ◌&&◌, ◌||◌, List, [], ◌∷◌, ℕ, ◌+◌, ◌≤◌, ◌<◌, ltb, leb, eqb, length, get_or, drop, Option, Some, None}
use Rattle.prelude.specs.Pick.{pick}
use Rattle.bankdef.specs.declared.Bankdef.{Bankdef}
use Rattle.bankdef.specs.Numbers.{fill_bit}
use Rattle.bankdef.specs.Check.{no_bank}

-- "fill, size and offset, every bit of its range"
abbrev pub fills_by : Bool → Option ℕ → Option ℕ → ℕ → Bool
fills_by true (Some size) (Some offset) p = leb offset p && ltb p (offset + size)
fills_by true (Some size) None p = false
fills_by true None offset p = false
fills_by false size offset p = false

abbrev pub fills_at : Bankdef → ℕ → Bool
fills_at b p = fills_by b.fill b.size b.offset p

-- it "takes the fill bit", and that is one
abbrev pub ones_at : Bankdef → ℕ → Bool
ones_at b p = fills_at b p && eqb (fill_bit b) 1

-- so in some bank of a list
unfoldable pub ones_in : List Bankdef → ℕ → Bool
ones_in [] p = false
ones_in (b ∷ l) p = ones_at b p || ones_in l p

-- "In a bank other than bank 0": the fill bit at a place, 0 where no bank fills it
abbrev pub fill_bit_at : List Bankdef → ℕ → ℕ
fill_bit_at l p = pick (ones_in (drop 1 l) p) 1 0

-- ---- a bank

-- Bit p is in the range of a bank with fill, size and offset.
pub record FillsBit (b : Bankdef) (p : ℕ) : Type 0 where
  pub fill : b.fill ≡ true
  pub bits : ℕ
  pub from : ℕ
  pub size : b.size ≡ Some bits
  pub offset : b.offset ≡ Some from
  pub first : from ≤ p
  pub past : p < from + bits

-- The fill bit at a place is one exactly when a bank other than bank 0, with fill, size, offset and fill bit one, has it in its range.
pub record One (l : List Bankdef) (p : ℕ) : Type 0 where
  pub bank : ℕ
  pub not-bank-0 : 0 < bank
  pub there : bank < length l
  pub fills : FillsBit (get_or l bank no_bank) p
  pub bit : fill_bit (get_or l bank no_bank) ≡ 1
