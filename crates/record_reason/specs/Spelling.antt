-- What is wrong with a line by itself: how it is spelled, and what its type asks for. Document 02, Tickets 1 and 12; the order of the reasons is in
-- include/denkumari.h.
use Rattle.std.specs.Prelude.{Bool, List, [], ◌∷◌, ℕ, suc, ◌+◌, ◌-◌, ◌*◌, ◌%◌, ltb, leb, eqb, length, get_or, drop}
use Rattle.prelude.specs.Pick.{pick}
use Rattle.record_lines.specs.Digits.{is_digit, all_digits, pair_at, bytes_at}
use Rattle.record_lines.specs.Sums.{sum_of}
use Rattle.record_ihex_line.specs.Format.{word_at}
use Rattle.record_srec_line.specs.Srec.{is_s, agrees}
use Rattle.record_reason.specs.declared.Cause.{Cause}

-- A reason's number, and two numbers that go with it.
abbrev pub cause_of : ℕ → ℕ → ℕ → Cause
cause_of reason first second = record { reason = reason; first = first; second = second }

-- 0 is no reason.
abbrev pub nothing : Cause
nothing = cause_of 0 0 0

abbrev pub or_else : Cause → Cause → Cause
or_else a b = pick (eqb a.reason 0) b a

-- ---- how a line is spelled

-- How many digits stand at the front.
unfoldable pub leading : List ℕ → ℕ
leading [] = 0
leading (c ∷ l) = pick (is_digit c) (suc (leading l)) 0

-- A colon, or S "in either case".
abbrev pub starts_by : ℕ → List ℕ → Bool
starts_by format line = pick (eqb format 0) (eqb (get_or line 0 0) 58) (is_s (get_or line 0 0))

-- The characters that a line should have. Its digits, the count first, begin at the character `from`; `body` bytes stand between the count's bytes and the
-- checksum, the count's own with them; the count is at least `fewest`. Where the count is not there, the shortest record's.
abbrev pub wanted_of : ℕ → ℕ → ℕ → List ℕ → ℕ
wanted_of from body fewest line =
    pick (ltb (length line) (from + 2)) (from + 2 * (body + 1 + fewest)) (from + 2 * (body + 1 + pair_at line from))

-- "Bytes of a record, checksum included, sum to zero and wrap at 256"; in S-records to 255, by "the ones' complement". 5: what the checksum is, and what it
-- should be.
abbrev pub sum_cause : ℕ → ℕ → ℕ → List ℕ → Cause
sum_cause from body target line =
    pick (eqb (sum_of (bytes_at line from (body + pair_at line from + 1)) % 256) target) nothing
    (cause_of 5 (pair_at line (from + 2 * (body + pair_at line from))) ((256 + target - sum_of (bytes_at line from (body + pair_at line from)) % 256) % 256))

-- 1: another first character. 2: the first character that should be a digit and is none, its place and itself. 3: how many characters there are, and should
-- be. 4: the count, and the least that it can be.
abbrev pub spelled : Bool → ℕ → ℕ → ℕ → ℕ → List ℕ → Cause
spelled begun from body fewest target line =
    pick begun
    (pick (all_digits (drop from line))
    (pick (eqb (length line) (wanted_of from body fewest line))
    (pick (ltb (pair_at line from) fewest) (cause_of 4 (pair_at line from) fewest) (sum_cause from body target line))
    (cause_of 3 (length line) (wanted_of from body fewest line)))
    (cause_of 2 (from + leading (drop from line)) (get_or line (from + leading (drop from line)) 0)))
    (cause_of 1 0 0)

abbrev pub choice : ℕ → ℕ → ℕ → ℕ
choice format hex other = pick (eqb format 0) hex other

-- Intel HEX: behind the colon count, two bytes of address and the type. S-records: behind the letter and the type's digit the count, of what follows it, which
-- is two bytes of address and the checksum at least.
abbrev pub spelled_by : ℕ → List ℕ → Cause
spelled_by format line =
    spelled (starts_by format line) (choice format 1 2) (choice format 4 0) (choice format 0 3) (choice format 0 255) line

-- ---- what its type asks for

-- "Type 01 has count 0 and address field 0000, type 04 count 2 and address field 0000". 4: the count, and that of the type. 8: the address field.
abbrev pub fields_of : ℕ → List ℕ → Cause
fields_of count line = pick (eqb (pair_at line 1) count) (cause_of 8 (word_at line 3) 0) (cause_of 4 (pair_at line 1) count)

-- "types 00, 01 and 04 .. other types are bad". 6: the type.
abbrev pub hex_typed : List ℕ → Cause
hex_typed line =
    pick (eqb (pair_at line 7) 0) nothing
    (pick (eqb (pair_at line 7) 1) (fields_of 0 line) (pick (eqb (pair_at line 7) 4) (fields_of 2 line) (cause_of 6 (pair_at line 7) 0)))

-- "one width in a file, the end record of the same". 7: the width of a line's address, and that in force. 4: the count, and what it should be, at least or,
-- of an end record, exactly.
abbrev pub data_typed : ℕ → ℕ → List ℕ → Cause
data_typed w state line =
    pick (agrees state w) (pick (leb (pair_at line 2) w) (cause_of 4 (pair_at line 2) (w + 1)) nothing) (cause_of 7 w state)

abbrev pub end_typed : ℕ → ℕ → List ℕ → Cause
end_typed w state line = pick (agrees state w) (cause_of 4 (pair_at line 2) (w + 1)) (cause_of 7 w state)

-- "S1 with S9, and S3 with S7"; an S0 that is well spelled is never at fault.
abbrev pub typed_as : ℕ → ℕ → List ℕ → Cause
typed_as t state line =
    pick (eqb t 49) (data_typed 2 state line)
    (pick (eqb t 51) (data_typed 4 state line)
    (pick (eqb t 55) (end_typed 4 state line) (pick (eqb t 57) (end_typed 2 state line) (cause_of 6 t 0))))

abbrev pub srec_typed : ℕ → List ℕ → Cause
srec_typed state line = typed_as (get_or line 1 0) state line

-- What is wrong with a line by itself, while a state is in force.
unfoldable pub own_cause : ℕ → ℕ → List ℕ → Cause
own_cause format state line = or_else (spelled_by format line) (pick (eqb format 0) (hex_typed line) (srec_typed state line))

-- ---- the bytes of a data line: the address of the first, how many there are, and the first address that there is not

abbrev pub start_by : ℕ → ℕ → List ℕ → ℕ
start_by format state line =
    pick (eqb format 0) (65536 * state + word_at line 3) (pick (eqb (get_or line 1 0) 49) (word_at line 4) (65536 * word_at line 4 + word_at line 8))

abbrev pub many_by : ℕ → List ℕ → ℕ
many_by format line = pick (eqb format 0) (pair_at line 1) (pick (eqb (get_or line 1 0) 49) (pair_at line 2 - 3) (pair_at line 2 - 5))

abbrev pub top_by : ℕ → List ℕ → ℕ
top_by format line = pick (eqb format 0) 4294967296 (pick (eqb (get_or line 1 0) 49) 65536 4294967296)
