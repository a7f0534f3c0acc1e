-- Data records have any count and any order (docs/DECISIONS.md): whatever pieces there are, of any length up to what a record's count byte holds, in
-- any order, some file gives them, and it is a good one if no byte is given twice, below the load address or past the last that fits. No record has
-- more bytes.
use Rattle.std.specs.Prelude.{◌≡◌, refl, List, [], ◌∷◌, ℕ, ◌+◌, ◌*◌, ◌≤◌, ◌<◌, ◌/◌, ◌%◌, ◌^◌, length}
use Rattle.std.proofs.Common.{arith}
use Rattle.bitvec.specs.Bits.{Bytes}
use Rattle.sort.specs.Agree.{All}
use Rattle.record_lines.specs.Pieces.{Piece}
use Rattle.record_lines.specs.Laws.Spelled.{bytes-none}
use Rattle.record_lines.specs.Uppers.{ended}
use Rattle.record_ihex_line.specs.ReadBack.{line_of}
use Rattle.record_ihex_line.specs.Laws.ReadBack.{upper-bytes}
use Rattle.record_srec_line.specs.Srec.{line_text, data_digit, end_digit}
use Rattle.record_srec_line.specs.ReadBack as back
use Rattle.record_srec_line.specs.Laws.ReadBack.{width_few}
use Rattle.says.specs.Words.{Not}
use Rattle.says.specs.Records.{Case, Hex, Srec}
use Rattle.says.specs.Read as s
use Rattle.says.specs.Read.{HexLines, SrecLines, Gives, Good}
use Rattle.meets_records.specs.Laws.One.{spells-below}
use Rattle.meets_records.specs.Laws.HexLine.{hex-written}
use Rattle.meets_records.specs.Laws.SrecLine.{srec-written, width_is}
use Rattle.meets_records.specs.Laws.Formats.{lines-ended, hex-lines-above, srec-lines-above}

-- A piece that a record has room for: an address below `top`, and at most `most` bytes.
pub record Fits (top most : ℕ) (p : Piece) : Type 0 where
  pub low : p.address < top
  pub few : length p.bytes ≤ most
  pub bytes : Bytes p.bytes

-- Pieces that give bytes from `load` on and below `top` alone, and none twice.
abbrev pub OnceWithin : ℕ → ℕ → List Piece → Type 0
OnceWithin load top ps = ((i a b : ℕ) → Gives ps i a b → (load ≤ a) × (a < top)) × ((i j a b c : ℕ) → Gives ps i a b → Gives ps j a c → i ≡ j)

-- ---- Intel HEX
hex-lines : (ps : List Piece) (u : ℕ) → All (Fits 4294967296 255) ps → (ls : List (List ℕ)) × HexLines u ls ps
hex-lines [] u all = (line_of 1 0 [] ∷ [], s.end (hex-written 1 0 [] (omega arith) (omega arith) bytes-none (omega arith)))
hex-lines (p ∷ ps) u all =
    let f = all.0 in
    let low = f.low in
    let few = f.few in
    let half = p.address / 65536 in
    let bound : half < 65536 = omega arith in
    let pair : 256 * (half / 256) + half % 256 ≡ half = omega arith in
    let place : p.address ≡ 65536 * (256 * (half / 256) + half % 256) + p.address % 65536 = omega arith in
    let rest = hex-lines ps (256 * (half / 256) + half % 256) all.1 in (
      line_of 4 0 (half / 256 ∷ half % 256 ∷ []) ∷ line_of 0 (p.address % 65536) p.bytes ∷ rest.0,
      s.upper-half (hex-written 4 0 (half / 256 ∷ half % 256 ∷ []) (omega arith) (omega arith) (upper-bytes half bound) (omega arith))
          (s.piece (hex-written 0 (p.address % 65536) p.bytes (omega arith) (omega arith) f.bytes (omega arith)) place rest.1),
    )

pub hex-any : (load : ℕ) (ps : List Piece) → All (Fits 4294967296 255) ps → OnceWithin load 4294967296 ps → (text : List ℕ) × Good 0 load text ps
hex-any load ps all sound =
    let k = hex-lines ps 0 all in
    (ended k.0, s.good (s.hex refl (lines-ended k.0 (hex-lines-above k.1)) k.1) sound.0 sound.1)

pub hex-no-more : {k : Case} {line bytes : List ℕ} {type field : ℕ} → Hex k line type field bytes → length bytes ≤ 255
hex-no-more x = omega (arith, spells-below x.spelled 0 (omega arith))

-- ---- S-records: the count byte counts the address and the checksum too
some-address : {w : ℕ} → back.Width w → 0 < 256 ^ w
some-address back.two = omega arith
some-address back.four = omega arith

srec-lines : {w : ℕ} → back.Width w → (ps : List Piece) → All (λ p. Fits (256 ^ w) 255 p × (w + length p.bytes + 1 ≤ 255)) ps
    → (ls : List (List ℕ)) × SrecLines (data_digit w) (end_digit w) w ls ps
srec-lines {w} v [] all =
    (line_text (end_digit w) w 0 [] ∷ [], s.end (srec-written v (end_digit w) 0 [] bytes-none (omega (arith, width_few v)) (some-address v)))
srec-lines {w} v (p ∷ ps) all =
    let f = all.0 in
    let rest = srec-lines v ps all.1 in (
      line_text (data_digit w) w p.address p.bytes ∷ rest.0,
      s.piece {p = p} (srec-written v (data_digit w) p.address p.bytes f.0.bytes (omega (arith, f.1)) f.0.low) rest.1,
    )

pub srec-any : {w : ℕ} → back.Width w → (load : ℕ) (ps : List Piece)
    → All (λ p. Fits (256 ^ w) 255 p × (w + length p.bytes + 1 ≤ 255)) ps → OnceWithin load (256 ^ w) ps → (text : List ℕ) × Good 1 load text ps
srec-any v load ps all sound =
    let k = srec-lines v ps all in
    (ended k.0, s.good (s.s-records refl (width_is v) (lines-ended k.0 (srec-lines-above v k.1)) k.1) sound.0 sound.1)

pub srec-no-more : {k : Case} {line bytes : List ℕ} {kind width address : ℕ} → Srec k line kind width address bytes → width + length bytes + 1 ≤ 255
srec-no-more x = omega (arith, spells-below x.spelled 0 (omega arith), x.counts)
