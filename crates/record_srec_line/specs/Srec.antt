-- One S-record, a line of text. Document 02, Ticket 12: "Write and read S1 with S9, and S3 with S7, from the same blocks, cut as in Ticket 1, end
-- address 0. The checksum is the ones' complement of the low byte of the sum of count, address and data bytes. A header record S0 is read
-- and skipped." A line is the letter S, the type's digit, and pairs of digits: the count of the bytes behind it, the address, the data, the
-- checksum. The address has w bytes: 2 in S1 and S9, 4 in S3 and S7. Everything here is said over w.
use Rattle.std.specs.Prelude.{Bool, ◌&&◌, ◌||◌, List, [], ◌∷◌, ◌++◌, ℕ, zero, suc, ◌+◌, ◌-◌, ◌*◌, ◌/◌, ◌%◌, ◌^◌, ltb, leb, eqb, length, get_or, drop}
use Rattle.prelude.specs.Pick.{pick}
use Rattle.record_lines.specs.Digits.{bytes_text, all_digits, pair_at, bytes_at}
use Rattle.record_lines.specs.Items.{Item, gives, passes, ends, bad, Format}
use Rattle.record_lines.specs.Pieces.{Piece}
use Rattle.record_lines.specs.Sums.{sum_of}

-- ---- a written line

-- An address in w bytes, the first the most significant.
unfoldable pub address_bytes : ℕ → ℕ → List ℕ
address_bytes zero a = []
address_bytes (suc w) a = (a / 256 ^ w) % 256 ∷ address_bytes w a

-- The count is that of the bytes behind it: address, data, checksum.
abbrev pub head_of : ℕ → ℕ → ℕ → List ℕ
head_of w a n = (w + n + 1) ∷ address_bytes w a

-- count, address and data bytes
abbrev pub body_of : ℕ → ℕ → List ℕ → List ℕ
body_of w a bytes = head_of w a (length bytes) ++ bytes

-- "the ones' complement of the low byte of the sum of count, address and data bytes"
abbrev pub checksum_of : List ℕ → ℕ
checksum_of body = 255 - sum_of body % 256

-- A line without its end; t is the type's digit.
unfoldable pub line_text : ℕ → ℕ → ℕ → List ℕ → List ℕ
line_text t w a bytes = 83 ∷ t ∷ bytes_text (body_of w a bytes ++ (checksum_of (body_of w a bytes) ∷ []))

-- "LF ends"
abbrev pub ended_line : ℕ → ℕ → ℕ → List ℕ → List ℕ
ended_line t w a bytes = line_text t w a bytes ++ (10 ∷ [])

-- "S1 with S9, and S3 with S7": width 2, and any other for width 4.
abbrev pub width_of : ℕ → ℕ
width_of w = pick (eqb w 2) 2 4

abbrev pub data_digit : ℕ → ℕ
data_digit w = pick (eqb w 2) 49 51

abbrev pub end_digit : ℕ → ℕ
end_digit w = pick (eqb w 2) 57 55

-- The line of a piece, and the end record's, "end address 0".
abbrev pub srec_text : ℕ → Piece → List ℕ
srec_text w p = ended_line (data_digit w) (width_of w) p.address p.bytes

abbrev pub srec_end : ℕ → List ℕ
srec_end w = ended_line (end_digit w) (width_of w) 0 []

-- ---- a line that is read

-- "Digits and the S in either case"
abbrev pub is_s : ℕ → Bool
is_s c = eqb c 83 || eqb c 115

-- A number by its bytes, the first the most significant.
unfoldable pub number_from : ℕ → List ℕ → ℕ
number_from n [] = n
number_from n (b ∷ bs) = number_from (n * 256 + b) bs

abbrev pub count_of : List ℕ → ℕ
count_of l = pair_at l 2

abbrev pub address_of : ℕ → List ℕ → ℕ
address_of w l = number_from 0 (bytes_at l 4 w)

-- The data stand between the address and the checksum.
abbrev pub data_of : ℕ → List ℕ → List ℕ
data_of w l = bytes_at l (4 + 2 * w) (count_of l - w - 1)

-- The letter, the digits, as many as the count says; count, address and data sum, with the checksum, to 255.
unfoldable pub is_sound : List ℕ → Bool
is_sound l =
    leb 4 (length l) && is_s (get_or l 0 0) && all_digits (drop 2 l) && eqb (length l) (4 + 2 * count_of l)
    && eqb (sum_of (bytes_at l 2 (count_of l + 1)) % 256) 255

-- "The reader finds the width: one width in a file, the end record of the same": 0 is in force until one is found.
abbrev pub agrees : ℕ → ℕ → Bool
agrees state w = eqb state 0 || eqb state w

-- "4 also for an address that doesn't fit the width": the last byte's too.
abbrev pub fits : ℕ → List ℕ → Bool
fits w l = leb (address_of w l + (count_of l - w - 1)) (256 ^ w)

unfoldable pub data_line : ℕ → ℕ → List ℕ → Item
data_line w state l = pick (agrees state w && ltb w (count_of l) && fits w l) (gives (address_of w l) (data_of w l) w) bad

-- An end record has no data, and any address.
unfoldable pub end_line : ℕ → ℕ → List ℕ → Item
end_line w state l = pick (agrees state w && eqb (count_of l) (w + 1)) ends bad

-- A header has an address of 16 bits; it changes nothing.
unfoldable pub header_line : ℕ → List ℕ → Item
header_line state l = pick (ltb 2 (count_of l)) (passes state) bad

-- S0, S1, S3, S7, S9.
unfoldable pub typed : ℕ → ℕ → List ℕ → Item
typed t state l =
    pick (eqb t 48) (header_line state l)
    (pick (eqb t 49) (data_line 2 state l)
    (pick (eqb t 51) (data_line 4 state l) (pick (eqb t 55) (end_line 4 state l) (pick (eqb t 57) (end_line 2 state l) bad))))

unfoldable pub srec_item : Format
srec_item state l = pick (is_sound l) (typed (get_or l 1 0) state l) bad

-- Where the data's first digit stands: behind the letter, the type, the count and the address, of 16 bits in S1.
abbrev pub first_for : ℕ → ℕ
first_for t = pick (eqb t 49) 8 12

abbrev pub first_of : List ℕ → ℕ
first_of l = first_for (get_or l 1 0)
