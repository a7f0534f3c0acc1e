-- Numbers in a file: "big-endian throughout". A byte past the end of the file reads as 0; a field is read only where it is whole.
use Rattle.std.specs.Prelude.{List, ℕ, ◌+◌, ◌*◌, get_or}

-- One byte.
abbrev pub byte : List ℕ → ℕ → ℕ
byte file at = get_or file at 0

-- Two, four and eight bytes, the first the most significant.
unfoldable pub word16 : List ℕ → ℕ → ℕ
word16 file at = byte file at * 256 + byte file (at + 1)

unfoldable pub word32 : List ℕ → ℕ → ℕ
word32 file at = word16 file at * 65536 + word16 file (at + 2)

unfoldable pub word64 : List ℕ → ℕ → ℕ
word64 file at = word32 file at * 4294967296 + word32 file (at + 4)
