-- Intel HEX, line by line (Intel's 1988 specification, as far as document 02, Ticket 1, takes it).
-- A line is a colon and pairs of hex digits, each pair a byte: the count of data bytes, the address field (two bytes, the higher first), the type, the data
-- bytes, and a checksum. "Bytes of a record, checksum included, sum to zero and wrap at 256."
use Rattle.std.specs.Prelude.{Bool, ◌&&◌, List, [], ◌∷◌, ◌++◌, ℕ, ◌+◌, ◌-◌, ◌*◌, ◌/◌, ◌%◌, eqb, length, drop, get_or}
use Rattle.prelude.specs.Pick.{pick}
use Rattle.record_lines.specs.Digits.{all_digits, bytes_text, pair_at, bytes_at}
use Rattle.record_lines.specs.Items.{Item, gives, passes, ends, bad, Format}
use Rattle.record_lines.specs.Pieces.{Piece}
use Rattle.record_lines.specs.Sums.{sum_of}

-- Two bytes, the higher first.
abbrev pub word_at : List ℕ → ℕ → ℕ
word_at line i = 256 * pair_at line i + pair_at line (i + 2)

-- The fields by their place in the line.
abbrev pub count_of : List ℕ → ℕ
count_of line = pair_at line 1

abbrev pub field_of : List ℕ → ℕ
field_of line = word_at line 3

abbrev pub type_of : List ℕ → ℕ
type_of line = pair_at line 7

-- A good line: a colon, then digits and nothing else, as many as its count says, with a sum that is zero.
unfoldable pub good_line : List ℕ → Bool
good_line line =
    eqb (get_or line 0 0) 58 && eqb (length line) (11 + 2 * count_of line) && all_digits (drop 1 line)
    && eqb (sum_of (bytes_at line 1 (5 + count_of line)) % 256) 0

-- "types 00, 01 and 04": data from the address field on, over the upper half in force; "Type 01 has count 0 and address field 0000, type 04 count 2
-- and address field 0000; other types are bad."
unfoldable pub by_type : ℕ → List ℕ → Item
by_type upper line =
    pick (eqb (type_of line) 0) (gives (65536 * upper + field_of line) (bytes_at line 9 (count_of line)) upper)
    (pick (eqb (field_of line) 0)
    (pick (eqb (type_of line) 1) (pick (eqb (count_of line) 0) ends bad)
    (pick (eqb (type_of line) 4) (pick (eqb (count_of line) 2) (passes (word_at line 9)) bad) bad))
    bad)

-- What a line says while an upper half is in force.
unfoldable pub hex_item : Format
hex_item upper line = pick (good_line line) (by_type upper line) bad

-- The line of a record, "upper case, LF ends".
abbrev pub record_bytes : ℕ → ℕ → List ℕ → List ℕ
record_bytes type field bytes = length bytes ∷ field / 256 ∷ field % 256 ∷ type ∷ bytes

-- The byte that makes a sum zero.
abbrev pub check_of : List ℕ → ℕ
check_of bytes = (256 - sum_of bytes % 256) % 256

abbrev pub line_text : List ℕ → List ℕ
line_text bytes = 58 ∷ bytes_text bytes ++ bytes_text (check_of bytes ∷ []) ++ 10 ∷ []

unfoldable pub record_text : ℕ → ℕ → List ℕ → List ℕ
record_text type field bytes = line_text (record_bytes type field bytes)

-- "a type 04 record when the upper half differs from that in force"
abbrev pub upper_text : ℕ → ℕ → List ℕ
upper_text in_force upper = pick (eqb upper in_force) [] (record_text 4 0 (upper / 256 ∷ upper % 256 ∷ []))

-- The lines of a piece.
unfoldable pub hex_text : ℕ → Piece → List ℕ
hex_text in_force p =
    upper_text in_force (p.address / 65536) ++ record_text 0 (p.address % 65536) p.bytes

-- The upper half that is in force behind it.
abbrev pub hex_after : ℕ → Piece → ℕ
hex_after in_force p = p.address / 65536

-- "and an end record"
abbrev pub end_text : List ℕ
end_text = record_text 1 0 []
