-- One record of each kind, as programmers print them, with what it says.
use Rattle.std.specs.Prelude.{refl, List, [], ◌∷◌, ℕ}
use Rattle.std.proofs.Common.{arith}
use Rattle.bitvec.specs.Lists.{list_of}
use Rattle.record_lines.specs.Digits.{value_of, all_digits}
use Rattle.record_lines.specs.Sums.{sum_of}
use Rattle.record_ihex_line.specs.Format.{good_line}
use Rattle.record_srec_line.specs.Srec.{is_sound, number_from}
use Rattle.record_srec_line.specs.ReadBack as back
use Rattle.says.specs.Records as r
use Rattle.says.specs.Records.{Hex, Srec}
use Rattle.meets_records.specs.Laws.HexLine.{good-hex}
use Rattle.meets_records.specs.Laws.SrecLine.{good-srec}

-- `:0300300002337A1E`: 02 33 7A at 0030
pub hex-data : Hex r.either (58 ∷ 48 ∷ 51 ∷ 48 ∷ 48 ∷ 51 ∷ 48 ∷ 48 ∷ 48 ∷ 48 ∷ 50 ∷ 51 ∷ 51 ∷ 55 ∷ 65 ∷ 49 ∷ 69 ∷ []) 0 48 (2 ∷ 51 ∷ 122 ∷ [])
unfolding good_line list_of all_digits value_of sum_of
hex-data = good-hex (58 ∷ 48 ∷ 51 ∷ 48 ∷ 48 ∷ 51 ∷ 48 ∷ 48 ∷ 48 ∷ 48 ∷ 50 ∷ 51 ∷ 51 ∷ 55 ∷ 65 ∷ 49 ∷ 69 ∷ []) refl

-- `:00000001FF`: the end record
pub hex-end : Hex r.either (58 ∷ 48 ∷ 48 ∷ 48 ∷ 48 ∷ 48 ∷ 48 ∷ 48 ∷ 49 ∷ 70 ∷ 70 ∷ []) 1 0 []
unfolding good_line list_of all_digits value_of sum_of
hex-end = good-hex (58 ∷ 48 ∷ 48 ∷ 48 ∷ 48 ∷ 48 ∷ 48 ∷ 48 ∷ 49 ∷ 70 ∷ 70 ∷ []) refl

-- `:02000004FFFFFC`: the upper half FFFF
pub hex-upper-half : Hex r.either (58 ∷ 48 ∷ 50 ∷ 48 ∷ 48 ∷ 48 ∷ 48 ∷ 48 ∷ 52 ∷ 70 ∷ 70 ∷ 70 ∷ 70 ∷ 70 ∷ 67 ∷ []) 4 0 (255 ∷ 255 ∷ [])
unfolding good_line list_of all_digits value_of sum_of
hex-upper-half = good-hex (58 ∷ 48 ∷ 50 ∷ 48 ∷ 48 ∷ 48 ∷ 48 ∷ 48 ∷ 52 ∷ 70 ∷ 70 ∷ 70 ∷ 70 ∷ 70 ∷ 67 ∷ []) refl

-- `S9030000FC`: the end record of 16-bit addresses
pub s9 : Srec r.either (83 ∷ 57 ∷ 48 ∷ 51 ∷ 48 ∷ 48 ∷ 48 ∷ 48 ∷ 70 ∷ 67 ∷ []) 57 2 0 []
unfolding is_sound list_of all_digits value_of sum_of number_from
s9 = good-srec back.two (83 ∷ 57 ∷ 48 ∷ 51 ∷ 48 ∷ 48 ∷ 48 ∷ 48 ∷ 70 ∷ 67 ∷ []) refl (omega arith)

-- `S00600004844521B`, the header in the manual page srec_motorola(5): HDR, skipped
abbrev s0-line : List ℕ
s0-line = 83 ∷ 48 ∷ 48 ∷ 54 ∷ 48 ∷ 48 ∷ 48 ∷ 48 ∷ 52 ∷ 56 ∷ 52 ∷ 52 ∷ 53 ∷ 50 ∷ 49 ∷ 66 ∷ []

pub s0 : Srec r.either s0-line 48 2 0 (72 ∷ 68 ∷ 82 ∷ [])
unfolding is_sound list_of all_digits value_of sum_of number_from
s0 = good-srec back.two s0-line refl (omega arith)

-- `S110000048656C6C6F2C20576F726C640A9D`, the data record of the same page's example: `Hello, World` and a line's end at 0
abbrev s1-line : List ℕ
s1-line = 83 ∷ 49 ∷ 49 ∷ 48 ∷ 48 ∷ 48 ∷ 48 ∷ 48 ∷ 52 ∷ 56 ∷ 54 ∷ 53 ∷ 54 ∷ 67 ∷ 54 ∷ 67 ∷ 54 ∷ 70 ∷ 50 ∷ 67 ∷ 50 ∷ 48 ∷ 53 ∷ 55 ∷ 54 ∷ 70 ∷ 55 ∷ 50 ∷
    54 ∷ 67 ∷ 54 ∷ 52 ∷ 48 ∷ 65 ∷ 57 ∷ 68 ∷ []

pub s1 : Srec r.either s1-line 49 2 0 (72 ∷ 101 ∷ 108 ∷ 108 ∷ 111 ∷ 44 ∷ 32 ∷ 87 ∷ 111 ∷ 114 ∷ 108 ∷ 100 ∷ 10 ∷ [])
unfolding is_sound list_of all_digits value_of sum_of number_from
s1 = good-srec back.two s1-line refl (omega arith)

-- `S3121234567848445230313233343536373839EE`, as srec_cat 1.64 writes `HDR0123456789` at 12345678
abbrev s3-line : List ℕ
s3-line = 83 ∷ 51 ∷ 49 ∷ 50 ∷ 49 ∷ 50 ∷ 51 ∷ 52 ∷ 53 ∷ 54 ∷ 55 ∷ 56 ∷ 52 ∷ 56 ∷ 52 ∷ 52 ∷ 53 ∷ 50 ∷ 51 ∷ 48 ∷ 51 ∷ 49 ∷ 51 ∷ 50 ∷ 51 ∷ 51 ∷ 51 ∷ 52 ∷
    51 ∷ 53 ∷ 51 ∷ 54 ∷ 51 ∷ 55 ∷ 51 ∷ 56 ∷ 51 ∷ 57 ∷ 69 ∷ 69 ∷ []

pub s3 : Srec r.either s3-line 51 4 305419896 (72 ∷ 68 ∷ 82 ∷ 48 ∷ 49 ∷ 50 ∷ 51 ∷ 52 ∷ 53 ∷ 54 ∷ 55 ∷ 56 ∷ 57 ∷ [])
unfolding is_sound list_of all_digits value_of sum_of number_from
s3 = good-srec back.four s3-line refl (omega arith)

-- `S70500000000FA`, as srec_cat 1.64 ends a file of 32-bit addresses
abbrev s7-line : List ℕ
s7-line = 83 ∷ 55 ∷ 48 ∷ 53 ∷ 48 ∷ 48 ∷ 48 ∷ 48 ∷ 48 ∷ 48 ∷ 48 ∷ 48 ∷ 70 ∷ 65 ∷ []

pub s7 : Srec r.either s7-line 55 4 0 ([])
unfolding is_sound list_of all_digits value_of sum_of number_from
s7 = good-srec back.four s7-line refl (omega arith)
