-- A run of bits: the `size` bits from bit `at` on.
use Rattle.std.specs.Prelude.{Bool, ◌&&◌, ℕ, ◌+◌, ◌*◌, leb, ltb}

-- It ends within `len` bytes. Document 01 refuses "a bit length past the lent bytes".
abbrev pub ends_within : ℕ → ℕ → ℕ → Bool
ends_within len at size = leb (at + size) (8 * len)

-- Bit k is one of its bits.
unfoldable pub covers : ℕ → ℕ → ℕ → Bool
covers at size k = leb at k && ltb k (at + size)
