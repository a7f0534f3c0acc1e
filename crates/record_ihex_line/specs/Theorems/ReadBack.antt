-- Theorems about what ReadBack defines.
use Rattle.std.specs.Prelude.{◌≡◌, true, ℕ, ◌+◌, ◌*◌, ◌/◌, ◌%◌, ◌<◌, eqb, drop, get_or}
use Rattle.std.proofs.Common.{sym, ap₂, ◌∙◌, arith, length-append}
use Rattle.std.proofs.Math.Path.{ap}
use mathlib.Core.List.{List, [], ◌∷◌, ◌++◌}
use borrow.Author.Tests.{eq-eqb, ne_eqb}
use Rattle.std.proofs.Math.ListN.{length}
use Rattle.std.proofs.Math.Seq.{take-append_seam, take_all}
use Rattle.bitvec.specs.Bits.{Bytes}
use Rattle.record_lines.specs.Digits.{all_digits, bytes_text, pair_at, bytes_at}
use Rattle.record_lines.specs.Laws.DigitLaws.{length-bytes_text, bytes_text-append}
use Rattle.record_lines.specs.Laws.Spelled.{bytes-none, bytes-cons, bytes-append, digits-written, pair-behind, bytes-behind}
use Rattle.record_lines.specs.Uppers.{Uppers, colon}
use Rattle.record_lines.specs.Laws.Uppers.{bytes-upper}
use Rattle.record_lines.specs.Items.{gives, passes, ends}
use Rattle.record_lines.specs.Sums.{sum_of}
use Rattle.record_lines.specs.Laws.Sums.{sum-append}
use Rattle.record_ihex_line.specs.Format.{word_at, count_of, field_of, type_of, good_line, by_type, hex_item, record_bytes, check_of, record_text}
use Rattle.record_ihex_line.specs.Laws.ReadBack.{upper-bytes, zero-sum}
use Rattle.record_ihex_line.specs.ReadBack.{line_of, whole_of}

-- The text of a record is its line and an LF.
pub record-is-line : (type field : ℕ) (bytes : List ℕ) → record_text type field bytes ≡ line_of type field bytes ++ (10 ∷ [])
unfolding record_text bytes_text
record-is-line type field bytes =
    ap (λ (l : List ℕ). 58 ∷ ((bytes_text (length bytes ∷ field / 256 ∷ field % 256 ∷ type ∷ []) ++ l) ++ (10 ∷ [])))
    (sym (bytes_text-append bytes (check_of (record_bytes type field bytes) ∷ [])))

module _ (type field : ℕ) (bytes : List ℕ) (ht : type < 256) (hf : field < 65536) (hb : Bytes bytes) (hn : length bytes < 256) where
  abbrev line : List ℕ
  line = line_of type field bytes

  abbrev whole : List ℕ
  whole = whole_of type field bytes

  abbrev check : List ℕ
  check = check_of (record_bytes type field bytes) ∷ []

  whole-bytes : Bytes whole
  whole-bytes =
      bytes-cons (length bytes) (field / 256 ∷ field % 256 ∷ type ∷ (bytes ++ check)) hn
      (bytes-cons (field / 256) (field % 256 ∷ type ∷ (bytes ++ check)) (omega arith)
      (bytes-cons (field % 256) (type ∷ (bytes ++ check)) (omega arith)
      (bytes-cons type (bytes ++ check) ht
      (bytes-append bytes check hb (bytes-cons (check_of (record_bytes type field bytes)) [] (omega arith) bytes-none)))))

  long-whole : length whole ≡ 5 + length bytes
  long-whole = omega (arith, length-append bytes check)

  -- byte k of the record, read back
  byte-back : (k : ℕ) → k < 5 + length bytes → pair_at line (1 + 2 * k) ≡ get_or whole k 0
  byte-back k h = pair-behind (58 ∷ []) whole whole-bytes k (omega (arith, long-whole))

  count-back : count_of line ≡ length bytes
  count-back = byte-back 0 (omega arith)

  field_back : field_of line ≡ field
  field_back = ap₂ (λ (u v : ℕ). 256 * u + v) (byte-back 1 (omega arith)) (byte-back 2 (omega arith)) ∙ omega arith

  pub type-back : type_of line ≡ type
  type-back = byte-back 3 (omega arith)

  bytes_back : bytes_at line 9 (count_of line) ≡ bytes
  bytes_back =
      ap (bytes_at line 9) count-back ∙ bytes-behind (58 ∷ []) whole whole-bytes 4 (length bytes) (omega (arith, long-whole)) ∙ take-append_seam bytes check

  sum_back : sum_of (bytes_at line 1 (5 + count_of line)) % 256 ≡ 0
  unfolding sum_of
  sum_back =
      ap (λ (k : ℕ). sum_of (bytes_at line 1 (5 + k)) % 256) count-back
      ∙ ap (λ (l : List ℕ). sum_of l % 256)
      (bytes-behind (58 ∷ []) whole whole-bytes 0 (5 + length bytes) (omega (arith, long-whole))
      ∙ take_all (5 + length bytes) whole (omega (arith, long-whole)))
      ∙ ap (λ (k : ℕ). k % 256) (omega (arith, sum-append bytes check)) ∙ zero-sum (sum_of (record_bytes type field bytes))

  -- what makes it good, part by part: as long as its count says, digits, and a sum that is zero
  good-parts : (eqb (length line) (11 + 2 * count_of line) ≡ true)
      × (all_digits (drop 1 line) ≡ true)
      × (eqb (sum_of (bytes_at line 1 (5 + count_of line)) % 256) 0 ≡ true)
  good-parts = (
    eq-eqb (length line) (11 + 2 * count_of line) (omega (arith, length-bytes_text whole, long-whole, count-back)),
    digits-written whole whole-bytes,
    eq-eqb (sum_of (bytes_at line 1 (5 + count_of line)) % 256) 0 sum_back,
  )

  -- Every record that is written is good by the reader's own rule.
  pub written-record-good : good_line line ≡ true
  unfolding good_line
  written-record-good = rw (good-parts.0, good-parts.1, good-parts.2)

  -- "upper case": every character of its line
  pub written-record-upper : Uppers line
  written-record-upper = (colon, bytes-upper whole whole-bytes)

  -- A data record says its bytes, from its address field on over the upper half in force.
  pub data-record-says : (upper : ℕ) → type ≡ 0 → hex_item upper line ≡ gives (65536 * upper + field) bytes upper
  unfolding good_line hex_item by_type
  data-record-says upper z =
      rw (good-parts.0, good-parts.1, good-parts.2, eq-eqb (type_of line) 0 (type-back ∙ z))
      (ap₂ (λ (u : ℕ) (l : List ℕ). gives (65536 * upper + u) l upper) field_back bytes_back)

-- A type 04 record says its upper half, and the end record that it ends.
pub end-record-says : (upper : ℕ) → hex_item upper (line_of 1 0 []) ≡ ends
unfolding good_line hex_item by_type
end-record-says upper =
    let good = good-parts 1 0 [] (omega arith) (omega arith) bytes-none (omega arith) in
    let t = type-back 1 0 [] (omega arith) (omega arith) bytes-none (omega arith) in
    rw (
      good.0,
      good.1,
      good.2,
      ne_eqb (type_of (line_of 1 0 [])) 0 (λ e. omega (arith, t)),
      eq-eqb (field_of (line_of 1 0 [])) 0 (field_back 1 0 [] (omega arith) (omega arith) bytes-none (omega arith)),
      eq-eqb (type_of (line_of 1 0 [])) 1 t,
      eq-eqb (count_of (line_of 1 0 [])) 0 (count-back 1 0 [] (omega arith) (omega arith) bytes-none (omega arith)),
    )

pub upper-record-word : (upper : ℕ) → upper < 65536 → word_at (line_of 4 0 (upper / 256 ∷ upper % 256 ∷ [])) 9 ≡ upper
upper-record-word upper h =
    let two = upper / 256 ∷ upper % 256 ∷ [] in
    let back = byte-back 4 0 two (omega arith) (omega arith) (upper-bytes upper h) (omega arith) in
    ap₂ (λ (u v : ℕ). 256 * u + v) (back 4 (omega arith)) (back 5 (omega arith)) ∙ omega arith

pub upper-record-says : (in_force upper : ℕ) → upper < 65536 → hex_item in_force (line_of 4 0 (upper / 256 ∷ upper % 256 ∷ [])) ≡ passes upper
unfolding good_line hex_item by_type
upper-record-says in_force upper h =
    let two = upper / 256 ∷ upper % 256 ∷ [] in
    let line = line_of 4 0 two in
    let small : Bytes two = upper-bytes upper h in
    let good = good-parts 4 0 two (omega arith) (omega arith) small (omega arith) in
    let t = type-back 4 0 two (omega arith) (omega arith) small (omega arith) in
    let n = count-back 4 0 two (omega arith) (omega arith) small (omega arith) in
    rw (
      good.0,
      good.1,
      good.2,
      ne_eqb (type_of line) 0 (λ e. omega (arith, t)),
      eq-eqb (field_of line) 0 (field_back 4 0 two (omega arith) (omega arith) small (omega arith)),
      ne_eqb (type_of line) 1 (λ e. omega (arith, t)),
      eq-eqb (type_of line) 4 t,
      eq-eqb (count_of line) 2 n,
    )
    (ap passes (upper-record-word upper h))
