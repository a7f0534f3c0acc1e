-- Laws that Theorems/Room rests on.
use Rattle.std.specs.Prelude.{◌≡◌, refl, Bool, true, false, List, [], ◌∷◌, ◌++◌, ℕ, ◌+◌, ◌*◌, ◌/◌, ◌%◌, ◌≤◌, eqb, length, take}
use Rattle.std.proofs.Common.{arith, length-take}
use Rattle.std.proofs.lemmas.Bool.{eqb-false}
use Rattle.std.proofs.Math.ListN.{length-append}
use Rattle.prelude.specs.Laws.Bools.{both}
use Rattle.prelude.specs.Pick.{pick}
use Rattle.bitvec.specs.Part.{is_part}
use Rattle.bitvec.specs.Theorems.Part.{is_part-true}
use Rattle.sort.specs.Agree.{All}
use Rattle.blocks.specs.declared.Block.{Block}
use Rattle.record_lines.specs.Laws.DigitLaws.{length-bytes_text}
use Rattle.record_lines.specs.Digits.{bytes_text}
use Rattle.record_lines.specs.Pieces.{Piece, piece, end_of}
use Rattle.record_lines.specs.Telling.{Rises}
use Rattle.record_ihex_line.specs.Format.{record_bytes, check_of, record_text, upper_text, hex_text, end_text}
use Rattle.record_srec_line.specs.Laws.ReadBack.{length-address}
use Rattle.record_srec_line.specs.Srec.{head_of, body_of, checksum_of, line_text, ended_line, width_of, data_digit, end_digit, srec_text, srec_end}
use Rattle.record_write.specs.Checks.{all_parts}
use Rattle.record_write.specs.Laws.Rising.{EndsBy}
use Rattle.record_write.specs.Text.{text_by, end_by, lines_from}
use Rattle.thm_record_room.specs.Pieces.{cost}

-- ---- one line

record-long : (type field : ℕ) (bytes : List ℕ) → length (record_text type field bytes) ≡ 12 + 2 * length bytes
unfolding record_text
record-long type field bytes =
    let b = record_bytes type field bytes in
    let check = check_of b ∷ [] in
    omega (
      arith,
      length-append (bytes_text b ++ bytes_text check) (10 ∷ []),
      length-append (bytes_text b) (bytes_text check),
      length-bytes_text b,
      length-bytes_text check,
    )

srec-long : (t w a : ℕ) (bytes : List ℕ) → length (ended_line t w a bytes) ≡ 7 + 2 * (w + length bytes)
unfolding line_text
srec-long t w a bytes =
    let body = body_of w a bytes in
    let check = checksum_of body ∷ [] in
    omega (
      arith,
      length-append (line_text t w a bytes) (10 ∷ []),
      length-bytes_text (body ++ check),
      length-append body check,
      length-append (head_of w a (length bytes)) bytes,
      length-address w a,
    )

width_few : (w : ℕ) → width_of w ≤ 4
width_few w = go (eqb w 2)
  where
    go : (t : Bool) → pick t 2 4 ≤ 4
    go true = omega arith
    go false = omega arith

-- a line of 16 characters for an upper half that is not in force yet, which is higher
upper-cost : (state upper : ℕ) → state ≤ upper → length (upper_text state upper) + 16 * state ≤ 16 * upper
upper-cost state upper h = go (eqb upper state) refl
  where
    go : (t : Bool) → eqb upper state ≡ t → length (pick t [] (record_text 4 0 (upper / 256 ∷ upper % 256 ∷ []))) + 16 * state ≤ 16 * upper
    go true e = omega arith
    go false e = let other = eqb-false upper state e in omega (arith, record-long 4 0 (upper / 256 ∷ upper % 256 ∷ []))

upper_long : (state upper : ℕ) → length (upper_text state upper) ≤ 16
upper_long state upper = go (eqb upper state)
  where
    go : (t : Bool) → length (pick t [] (record_text 4 0 (upper / 256 ∷ upper % 256 ∷ []))) ≤ 16
    go true = omega arith
    go false = omega (arith, record-long 4 0 (upper / 256 ∷ upper % 256 ∷ []))

module _ (format state : ℕ) (p : Piece) where
  abbrev upper : ℕ
  upper = p.address / 65536

  hex-is : length (hex_text state p) ≡ length (upper_text state upper) + (12 + 2 * length p.bytes)
  unfolding hex_text
  hex-is =
      omega (arith, length-append (upper_text state upper) (record_text 0 (p.address % 65536) p.bytes), record-long 0 (p.address % 65536) p.bytes)

  srec-few : length (srec_text format (piece p.address (take 250 p.bytes))) ≤ 15 + 2 * length p.bytes
  srec-few =
      omega (arith, srec-long (data_digit format) (width_of format) p.address (take 250 p.bytes), length-take 250 p.bytes, width_few format)

  text-cost : state ≤ upper → length (text_by format state p) + 16 * state ≤ 15 + 2 * length p.bytes + 16 * upper
  text-cost h = go (eqb format 0)
    where
      go : (t : Bool)
          → length (pick t (hex_text state p) (srec_text format (piece p.address (take 250 p.bytes)))) + 16 * state
          ≤ 15 + 2 * length p.bytes + 16 * upper
      go true = omega (arith, hex-is, upper-cost state upper h)
      go false = omega (arith, srec-few)

  text-few : length (text_by format state p) ≤ 31 + 2 * length p.bytes
  text-few = go (eqb format 0)
    where
      go : (t : Bool) → length (pick t (hex_text state p) (srec_text format (piece p.address (take 250 p.bytes)))) ≤ 31 + 2 * length p.bytes
      go true = omega (arith, hex-is, upper_long state upper)
      go false = omega (arith, srec-few)

pub end-few : (format : ℕ) → length (end_by format) ≤ 15
end-few format = go (eqb format 0)
  where
    go : (t : Bool) → length (pick t end_text (srec_end format)) ≤ 15
    go true = omega (arith, record-long 1 0 [])
    go false = omega (arith, srec-long (end_digit format) (width_of format) 0 [], width_few format)

-- ---- all lines

lines-cost : (format state top : ℕ) (l : List Piece) (from : ℕ) → Rises top from l → state ≤ from / 65536 → state ≤ top / 65536
    → length (lines_from format state l) + 16 * state ≤ cost l + 16 * (top / 65536)
unfolding lines_from cost
lines-cost format state top [] from r h g = omega arith
lines-cost format state top (p ∷ l) from r h g =
    let u = p.address / 65536 in
    let sits = r.0 in
    let above : from ≤ p.address = sits.above in
    let below : end_of p ≤ top = sits.below in
    let up : state ≤ u = omega arith in
    let rest = lines-cost format u top l (end_of p) r.1 (omega arith) (omega arith) in
    omega (arith, length-append (text_by format state p) (lines_from format u l), text-cost format state p up, rest)

pub all_lines : (format load top : ℕ) (l : List Piece) → Rises top load l → load ≤ top
    → length (lines_from format 0 l) + 16 * (load / 65536) ≤ cost l + 16 + 16 * (top / 65536)
unfolding lines_from cost
all_lines format load top [] r h = omega arith
all_lines format load top (p ∷ l) r h =
    let u = p.address / 65536 in
    let sits = r.0 in
    let above : load ≤ p.address = sits.above in
    let below : end_of p ≤ top = sits.below in
    let low : load / 65536 ≤ u = omega arith in
    let rest = lines-cost format u top l (end_of p) r.1 (omega arith) (omega arith) in
    omega (arith, length-append (text_by format 0 p) (lines_from format u l), text-few format 0 p, rest, low)

-- ---- the file

pub ends_by : (load : ℕ) (image : List ℕ) (blocks : List Block) → all_parts (length image) blocks ≡ true → All (EndsBy (load + length image) load) blocks
unfolding all_parts
ends_by load image [] p = tt
ends_by load image (b ∷ l) p =
    let (part, parts) = both (is_part (length image) b.origin b.size) (all_parts (length image) l) p in
    let inside = (is_part-true (length image) b.origin b.size part).inside in
    (omega arith, ends_by load image l parts)
