-- A number by its bits, most significant first, and the laws by which shifts, remainders and sums take bits out and put them in.
-- Each law holds at every width; at bytes the width is 8, at hex digits 4.
use Rattle.std.specs.Prelude.{ℕ, zero, suc, ◌+◌, ◌-◌, ◌*◌, ◌/◌, ◌%◌, ◌^◌, ◌<◌}

-- The number whose n bits, most significant first, are f 0, f 1, .. f (n - 1).
unfoldable pub numeral : ℕ → (ℕ → ℕ) → ℕ
numeral zero f = 0
numeral (suc n) f = numeral n f * 2 + f n

-- Bit b of a number of n bits, counted from the top.
abbrev pub bit_of : ℕ → ℕ → ℕ → ℕ
bit_of n x b = x / 2 ^ (n - 1 - b) % 2

-- A function that gives bits.
abbrev pub Bits : (ℕ → ℕ) → Type 0
Bits f = (i : ℕ) → f i < 2
