-- The fields of a file. Document 01: "Fields have a one-byte tag and a two-byte length, big-endian throughout, in this order".
use Rattle.std.specs.Prelude.{Bool, true, ◌&&◌, List, ℕ, zero, suc, ◌+◌, leb, eqb, length}
use Rattle.prelude.specs.Pick.{pick}
use Rattle.form_fields.specs.Words.{byte, word16}

-- A whole field with this tag and this length stands at `at`: three bytes of header, then the payload. "A cut header or payload is a
-- wrong length."
unfoldable pub field_at : List ℕ → ℕ → ℕ → ℕ → Bool
field_at file tag len at =
    leb (at + 3 + len) (length file) && eqb (byte file at) tag && eqb (word16 file (at + 1)) len

-- "flags above 15" break a file: they are the last byte of a bank of tag 1. "Its banks use tag 17, with a payload one byte longer (fill bit,
-- 0 or 1)": there the flags stand before the last byte. Of other fields any bytes may be the last two.
abbrev pub ends_well : ℕ → ℕ → ℕ → Bool
ends_well tag before last = pick (eqb tag 1) (leb last 15) (pick (eqb tag 17) (leb before 15 && leb last 1) true)

unfoldable pub sound_at : List ℕ → ℕ → ℕ → ℕ → Bool
sound_at file tag len at = field_at file tag len at && ends_well tag (byte file (at + 1 + len)) (byte file (at + 2 + len))

-- How many sound fields with this tag and this length stand one behind the other from `at` on. Each is at least three bytes long, so
-- as many steps as the file has bytes are enough.
unfoldable pub run_in : ℕ → List ℕ → ℕ → ℕ → ℕ → ℕ
run_in zero file tag len at = 0
run_in (suc steps) file tag len at =
    let more : ℕ = suc (run_in steps file tag len (at + (3 + len))) in
    pick (sound_at file tag len at) more 0

unfoldable pub run : List ℕ → ℕ → ℕ → ℕ → ℕ
unfolding run_in
run file tag len at = run_in (length file) file tag len at
