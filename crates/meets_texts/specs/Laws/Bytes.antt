-- What a good file gives are bytes, and so is what stands in the room for them once the file is read.
use Rattle.std.specs.Prelude.{◌≡◌, Bool, true, false, List, [], ◌∷◌, ◌++◌, ℕ, ◌+◌, ◌-◌, ◌<◌, length, get_or}
use Rattle.std.proofs.Common.{sym, subst, arith, length-append, get_or-append-add}
use Rattle.std.proofs.Math.Decide.{dec_lt}
use Rattle.std.proofs.Math.ListN.{get_or-append, get_or-eq_default}
use Rattle.prelude.specs.Pick.{pick}
use Rattle.bitvec.specs.Bits.{Bytes}
use Rattle.record_lines.specs.Pieces.{Piece, piece}
use Rattle.record_scan.specs.Reading.{sound, read_text}
use Rattle.record_read.specs.Given.{holds, byte_at, filled}
use Rattle.record_read.specs.Theorems.GivenLaws.{filled_at, filled-long}
use Rattle.says.specs.Records.{Case, Spells, Hex, Srec}
use Rattle.says.specs.Read as s
use Rattle.says.specs.Read.{HexLines, SrecLines, Good}
use Rattle.meets_records.specs.Laws.One.{spells-below}
use Rattle.meets_records.specs.Laws.Sits.{new_of, solid}
use Rattle.meets_records.specs.Theorems.FaultMeets.{sound-good}

-- Pieces that hold bytes.
data Small : List Piece → Type 0 where
  none : Small []
  more : {p : Piece} {l : List Piece} → Bytes p.bytes → Small l → Small (p ∷ l)

-- what is spelled between other bytes
among : {k : Case} {t : List ℕ} (a b : List ℕ) (c : ℕ) → Spells k t (a ++ (b ++ (c ∷ []))) → Bytes b
among a b c x i =
    elim (dec_lt i (length b)) [
      | yes h ↦
          let y = spells-below x (length a + i) (omega (arith, length-append a (b ++ (c ∷ [])), length-append b (c ∷ []))) in
          rw (get_or-append-add a (b ++ (c ∷ [])) i 0, get_or-append b (c ∷ []) 0 i h) at y
      | no h ↦ rw (get_or-eq_default b 0 {n = i} (omega arith)) (omega arith)
    ]

hex-bytes : {k : Case} {l b : List ℕ} {t f : ℕ} → Hex k l t f b → Bytes b
hex-bytes {b = b} {t = t} x = among (length b ∷ x.high ∷ x.low ∷ t ∷ []) b x.check x.spelled

srec-bytes : {k : Case} {l b : List ℕ} {t w a : ℕ} → Srec k l t w a b → Bytes b
srec-bytes {b = b} x = among (x.count ∷ x.field) b x.check x.spelled

hex-small : {u : ℕ} {ls : List (List ℕ)} {ps : List Piece} → HexLines u ls ps → Small ps
hex-small (s.end h) = none
hex-small (s.piece h e t) = more (hex-bytes h) (hex-small t)
hex-small (s.upper-half h t) = hex-small t

srec-small : {d e w : ℕ} {ls : List (List ℕ)} {ps : List Piece} → SrecLines d e w ls ps → Small ps
srec-small (s.end h) = none
srec-small (s.piece h t) = more (srec-bytes h) (srec-small t)
srec-small (s.header h t) = srec-small t

good-small : {format load : ℕ} {text : List ℕ} {ps : List Piece} → Good format load text ps → Small ps
good-small (s.good (s.hex e lines x) i o) = hex-small x
good-small (s.good (s.s-records e v lines x) i o) = srec-small x

new-small : (a : ℕ) (b : List ℕ) → Bytes b → {l : List Piece} → Small l → Small (new_of (piece a b) ++ l)
unfolding new_of
new-small a [] h x = x
new-small a (c ∷ b) h x = more h x

solid-small : {ps : List Piece} → Small ps → Small (solid ps)
solid-small none = none
solid-small (more {p} h x) = new-small p.address p.bytes h (solid-small x)

-- ---- the room for them

pick_small : (t : Bool) {x y : ℕ} → x < 256 → y < 256 → pick t x y < 256
pick_small true h k = h
pick_small false h k = k

byte_small : {l : List Piece} → Small l → (a old : ℕ) → old < 256 → byte_at l a old < 256
unfolding byte_at
byte_small none a old h = h
byte_small (more {p} b x) a old h =
    byte_small x a (pick (holds p a) (get_or p.bytes (a - p.address) 0) old) (pick_small (holds p a) (b (a - p.address)) h)

pub filled-bytes : (k load : ℕ) → k < 2 → (source : List ℕ) (l : List Piece) → read_text k load source ≡ sound l → (old : List ℕ) → Bytes old
    → Bytes (filled load l old)
filled-bytes k load known source l e old b j =
    let g = sound-good k load source known l e in
    let small = subst Small (sym g.2) (solid-small (good-small g.1)) in
    elim (dec_lt j (length old)) [
      | yes h ↦ rw (filled_at load l old j h) (byte_small small (load + j) (get_or old j 0) (b j))
      | no h ↦ rw (get_or-eq_default (filled load l old) 0 {n = j} (omega (arith, filled-long load l old))) (omega arith)
    ]
