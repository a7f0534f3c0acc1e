-- Document 01: "Hex takes four bits a digit, lower case, the last digit padded with zero bits." And of what is refused: "Block and hex
-- calls try 4 (.. a bit length past the lent bytes), then 14"; "a lent output is too short: .. hex 3"; "After success, lent spans,
-- blocks and hex keep their old contents past what was written."
use Rattle.std.specs.Prelude.{◌≡◌, ◌&&◌, List, ◌++◌, ℕ, ◌+◌, ◌*◌, ◌/◌, ◌≤◌, ◌<◌, leb, ltb, length, drop, Result, Ok, Err}
use Rattle.prelude.specs.Pick.{pick}
use Rattle.prelude.specs.Told.{Told, gives, refuses, told_refusal}
use Rattle.prelude.specs.declared.Place.TheVariants.{One}
use Rattle.prelude.specs.declared.Refusal.TheVariants.{Malformed, TooShort}
use Rattle.prelude.specs.declared.Refusal.{Refusal}
use Rattle.bitvec.specs.Within.{ends_within}
use Rattle.bitvec.specs.Lists.{list_of}
use Rattle.bitvec.specs.Numeral.{numeral}
use Rattle.bitvec.specs.Bits.{bit_at}

-- A digit's letter, lower case: 0 to 9 from 48 on, a to f from 97 on.
abbrev pub digit_of : ℕ → ℕ
digit_of n = pick (ltb n 10) (48 + n) (87 + n)

-- Bit k of what is printed: a zero bit from the bit length on, whatever the bytes hold there.
unfoldable pub padded_bit : List ℕ → ℕ → ℕ → ℕ
padded_bit bytes bits k = pick (ltb k bits) (bit_at bytes k) 0

-- Digit k stands for the number that the four bits from 4 * k on make.
unfoldable pub digit_value : List ℕ → ℕ → ℕ → ℕ
digit_value bytes bits k = numeral 4 (λ b. padded_bit bytes bits (4 * k + b))

unfoldable pub digit_at : List ℕ → ℕ → ℕ → ℕ
digit_at bytes bits k = digit_of (digit_value bytes bits k)

-- Four bits a digit, and one digit more for what is left.
abbrev pub digit_count : ℕ → ℕ
digit_count bits = (bits + 3) / 4

-- The digits.
abbrev pub hex_of : List ℕ → ℕ → List ℕ
hex_of bytes bits = list_of (digit_count bits) (digit_at bytes bits)

-- A call's answer, and the lent hex afterwards.
abbrev pub hex_answer : List ℕ → ℕ → List ℕ → Result ℕ Refusal
hex_answer bytes bits hex =
    pick (ends_within (length bytes) 0 bits)
    (pick (leb (digit_count bits) (length hex)) (Ok (digit_count bits)) (Err (TooShort 3)))
    (Err (Malformed 0))

abbrev pub hex_after : List ℕ → ℕ → List ℕ → List ℕ
hex_after bytes bits hex =
    pick (ends_within (length bytes) 0 bits && leb (digit_count bits) (length hex)) (hex_of bytes bits ++ drop (digit_count bits) hex) hex

-- what a caller is told
abbrev pub told_hex : Result ℕ Refusal → Told ℕ
told_hex (Ok n) = gives n
told_hex (Err why) = told_refusal why

-- "Block and hex calls try 4 (.. a bit length past the lent bytes), then 14", whose buffer is 3
pub data HexTold (bytes : List ℕ) (bits : ℕ) (hex : List ℕ) : Told ℕ → Type 0 where
  past : 8 * length bytes < bits → HexTold bytes bits hex (refuses 4 (One 0))
  short : bits ≤ 8 * length bytes → length hex < digit_count bits → HexTold bytes bits hex (refuses 14 (One 3))
  printed : bits ≤ 8 * length bytes → digit_count bits ≤ length hex → HexTold bytes bits hex (gives (digit_count bits))

pub record Prints (bytes : List ℕ) (bits : ℕ) (hex : List ℕ) (count : Result ℕ Refusal) (after : List ℕ) : Type 0 where
  pub answer : count ≡ hex_answer bytes bits hex
  pub digits : after ≡ hex_after bytes bits hex
  pub told : HexTold bytes bits hex (told_hex count)
