-- The text of pieces, by the definitions and by the sentences: Intel HEX, and S-records once over both widths.
use Rattle.std.specs.Prelude.{◌≡◌, refl, Bool, List, [], ◌∷◌, ℕ, ◌+◌, ◌*◌, ◌<◌, ◌/◌, ◌%◌, ◌^◌, eqb, length}
use Rattle.std.proofs.Math.Bool.{true, false}
use native.Mathlib.Omega.{arith}
use borrow.Author.Tests.{eqb-true, eqb-false}
use Rattle.prelude.specs.Pick.{pick}
use Rattle.record_lines.specs.Pieces.{Piece}
use Rattle.record_lines.specs.Laws.Spelled.{bytes-none}
use Rattle.record_lines.specs.Telling.{Sits, Rises}
use Rattle.record_lines.specs.Uppers.{ended}
use Rattle.record_ihex_line.specs.ReadBack.{line_of}
use Rattle.record_ihex_line.specs.Laws.ReadBack.{upper-bytes}
use Rattle.record_srec_line.specs.Srec.{data_digit, end_digit}
use Rattle.record_srec_line.specs.ReadBack as back
use Rattle.record_srec_line.specs.Laws.ReadBack.{width_few}
use Rattle.record_write.specs.Laws.Said.{hex_lines, srec_lines}
use Rattle.says.specs.Records.{upper, Hex}
use Rattle.says.specs.Write as say
use Rattle.says.specs.Write.{HexText, SrecText}
use Rattle.meets_records.specs.Laws.HexLine.{hex-written}
use Rattle.meets_records.specs.Laws.SrecLine.{srec-written}

-- ---- Intel HEX
module _ (p : Piece) (from : ℕ) (s : Sits 4294967296 from p) where
  abbrev half : ℕ
  half = p.address / 65536

  data-line : Hex upper (line_of 0 (p.address % 65536) p.bytes) 0 (p.address % 65536) p.bytes
  data-line = let few = s.few in hex-written 0 (p.address % 65536) p.bytes (omega arith) (omega arith) s.bytes (omega arith)

  half-low : half < 65536
  half-low = let b = s.below in let some = s.some in omega arith

  piece-text : (state : ℕ) (ls : List (List ℕ)) (l : List Piece) → HexText half l (ended ls) → (t : Bool) → eqb half state ≡ t → HexText state (p ∷ l)
      (ended (pick t (line_of 0 (p.address % 65536) p.bytes ∷ ls)
      (line_of 4 0 (half / 256 ∷ half % 256 ∷ []) ∷ line_of 0 (p.address % 65536) p.bytes ∷ ls)))
  unfolding ended
  piece-text state ls l x true e =
      let same : half ≡ state = eqb-true half state e in
      let whole : p.address ≡ 65536 * state + p.address % 65536 = omega arith in
      say.same whole data-line (rw same at x)
  piece-text state ls l x false e =
      let whole : p.address ≡ 65536 * half + p.address % 65536 = omega arith in
      let pair : half ≡ 256 * (half / 256) + half % 256 = omega arith in
      say.differs whole (eqb-false half state e) pair
      (hex-written 4 0 (half / 256 ∷ half % 256 ∷ []) (omega arith) (omega arith) (upper-bytes half half-low) (omega arith)) data-line x

pub hex-text-meets : (from state : ℕ) (l : List Piece) → Rises 4294967296 from l → HexText state l (ended (hex_lines state l))
unfolding hex_lines ended
hex-text-meets from state [] rise = say.end (hex-written 1 0 [] (omega arith) (omega arith) bytes-none (omega arith))
hex-text-meets from state (p ∷ l) rise =
    piece-text p from rise.0 state (hex_lines (p.address / 65536) l) l (hex-text-meets (p.address + length p.bytes) (p.address / 65536) l rise.1)
    (eqb (p.address / 65536) state) refl

-- ---- S-records
some-address : {w : ℕ} → back.Width w → 0 < 256 ^ w
some-address back.two = omega arith
some-address back.four = omega arith

pub srec-text-meets : {w : ℕ} → back.Width w → (from : ℕ) (l : List Piece) → Rises (256 ^ w) from l
    → SrecText (data_digit w) (end_digit w) w l (ended (srec_lines w l))
unfolding srec_lines ended
srec-text-meets {w} v from [] rise = say.end (srec-written v (end_digit w) 0 [] bytes-none (omega (arith, width_few v)) (some-address v))
srec-text-meets {w} v from (p ∷ l) rise =
    let s = rise.0 in
    let few = s.few in
    let low : p.address < 256 ^ w = omega (arith, s.some, s.below) in
    say.next (srec-written v (data_digit w) p.address p.bytes s.bytes (omega (arith, width_few v)) low)
    (srec-text-meets v (p.address + length p.bytes) l rise.1)
