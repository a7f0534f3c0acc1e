-- The image before any item is written (document 02, Ticket 6): "In a bank other than bank 0 with fill, size and offset, every bit of its range inside the
-- image length that belongs to no written item takes the fill bit, reserved bits too." And "zero elsewhere", to the last byte lent.
use Rattle.std.specs.Prelude.{List, ℕ, ltb}
use Rattle.prelude.specs.Pick.{pick}
use Rattle.bankdef.specs.FillBits.{fill_bit_at}
use Rattle.bankdef.specs.declared.Bankdef.{Bankdef}
use Rattle.bitvec.specs.Bits.{of_bits}

-- Bit k of it, in an image of so many bits.
abbrev pub blank_bit : List Bankdef → ℕ → ℕ → ℕ
blank_bit banks bits k = pick (ltb k bits) (fill_bit_at banks k) 0

-- Its bytes.
unfoldable pub blank_of : List Bankdef → ℕ → ℕ → List ℕ
blank_of banks bits bytes = of_bits bytes (blank_bit banks bits)
