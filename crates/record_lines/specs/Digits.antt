-- Bytes as pairs of hex digits. Document 02, Ticket 1: written in "upper case"; "Reading takes either letter case".
use Rattle.std.specs.Prelude.{ℕ, ◌+◌, ◌-◌, ◌*◌, ◌/◌, ◌%◌, Bool, true, ◌&&◌, List, [], ◌∷◌, ◌++◌, nat_le, nat_lt, slice_index}
use Rattle.prelude.specs.Pick.{pick}
use Rattle.bitvec.specs.Lists.{list_of}

-- The letter of a number below 16, upper case: 0 to 9 from 48 on, A to F from 65 on.
abbrev pub letter_of : ℕ → ℕ
letter_of n = pick (nat_lt n 10) (48 + n) (55 + n)

-- What a character stands for: 0 to 9, A to F, a to f; 16 is no digit.
unfoldable pub value_of : ℕ → ℕ
value_of c =
    pick (nat_le 48 c && nat_le c 57) (c - 48)
    (pick (nat_le 65 c && nat_le c 70) (c - 55)
    (pick (nat_le 97 c && nat_le c 102) (c - 87) 16))

abbrev pub is_digit : ℕ → Bool
is_digit c = nat_lt (value_of c) 16

unfoldable pub all_digits : List ℕ → Bool
all_digits [] = true
all_digits (c ∷ l) = is_digit c && all_digits l

-- A byte as it is written, and bytes one after the other.
abbrev pub byte_text : ℕ → List ℕ
byte_text b = letter_of (b / 16) ∷ letter_of (b % 16) ∷ []

unfoldable pub bytes_text : List ℕ → List ℕ
bytes_text [] = []
bytes_text (b ∷ l) = byte_text b ++ bytes_text l

-- The byte that a line's characters i and i + 1 spell, where they are digits; and the n bytes that those from i on spell.
abbrev pub pair_at : List ℕ → ℕ → ℕ
pair_at line i = 16 * (value_of (slice_index line i) % 16) + value_of (slice_index line (i + 1)) % 16

abbrev pub bytes_at : List ℕ → ℕ → ℕ → List ℕ
bytes_at line i n = list_of n (λ j. pair_at line (i + 2 * j))
