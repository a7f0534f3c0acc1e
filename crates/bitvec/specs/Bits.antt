-- Bit i of bytes, said once, for the image and for the value bytes. Document 01: "Bits run from the top of each byte, value bytes too."
use Rattle.std.specs.Prelude.{List, ℕ, ◌+◌, ◌*◌, ◌/◌, ◌%◌, ◌<◌, get_or}
use Rattle.bitvec.specs.Lists.{list_of}
use Rattle.bitvec.specs.Numeral.{numeral, bit_of}

-- Bit i is bit i % 8, from the top, of byte i / 8; past the last byte it is 0.
unfoldable pub bit_at : List ℕ → ℕ → ℕ
bit_at bytes i = bit_of 8 (get_or bytes (i / 8) 0) (i % 8)

-- The n bytes whose bits are f 0, f 1, .. f (8 * n - 1).
unfoldable pub of_bits : ℕ → (ℕ → ℕ) → List ℕ
of_bits n f = list_of n (λ j. numeral 8 (λ b. f (8 * j + b)))

-- A list of bytes.
abbrev pub Bytes : List ℕ → Type 0
Bytes l = (j : ℕ) → get_or l j 0 < 256
