-- "Bytes of a record, checksum included, sum to zero and wrap at 256": of every Intel HEX line that is written, and of every line of a file that is read. "The
-- checksum is the ones' complement of the low byte of the sum of count, address and data bytes": likewise of every S-record. From the sentences alone.
use Rattle.std.specs.Prelude.{◌≡◌, refl, List, [], ◌∷◌, ◌++◌, ℕ, ◌+◌, ◌-◌, ◌%◌, length, take}
use Rattle.std.proofs.Common.{sym, subst, append_assoc, arith}
use Rattle.sort.specs.Agree.{All}
use Rattle.record_lines.specs.Pieces.{Piece}
use Rattle.says.specs.Records as r
use Rattle.says.specs.Words.{Not}
use Rattle.says.specs.Records.{Lines, Spells, Hex, Srec, total}
use Rattle.says.specs.Write as w
use Rattle.says.specs.Write.{Given, HexSays, SrecSays}
use Rattle.says.specs.Read as s
use Rattle.says.specs.Read.{HexLines, SrecLines, Good, Lent, ReadSays}
use Rattle.meets_records.specs.Laws.OwnFile.{hex-back, srec-back, hex-filed, srec-filed}

-- A line whose digits spell bytes that sum to zero.
pub record SumsToZero (line : List ℕ) : Type 0 where
  pub digits : List ℕ
  pub bytes : List ℕ
  pub colon : line ≡ 58 ∷ digits
  pub spelled : Spells r.either digits bytes
  pub zero : total bytes % 256 ≡ 0

-- A line whose last byte is the ones' complement of the low byte of the sum of those before it.
pub record Complements (line : List ℕ) : Type 0 where
  pub s : ℕ
  pub kind : ℕ
  pub digits : List ℕ
  pub bytes : List ℕ
  pub check : ℕ
  pub front : line ≡ s ∷ kind ∷ digits
  pub spelled : Spells r.either digits (bytes ++ check ∷ [])
  pub complement : check ≡ 255 - total bytes % 256

hex-sums : {l b : List ℕ} {t f : ℕ} → Hex r.either l t f b → SumsToZero l
hex-sums {b = b} {t = t} x = record {
  digits = x.digits;
  bytes = length b ∷ x.high ∷ x.low ∷ t ∷ b ++ x.check ∷ [];
  colon = x.colon;
  spelled = x.spelled;
  zero = x.sum;
}

srec-sums : {l b : List ℕ} {kind w a : ℕ} → Srec r.either l kind w a b → Complements l
srec-sums {b = b} {kind = kind} x = record {
  s = x.s;
  kind = kind;
  digits = x.digits;
  bytes = x.count ∷ x.field ++ b;
  check = x.check;
  front = x.front;
  spelled = subst (Spells r.either x.digits) (sym (append_assoc (x.count ∷ x.field) b (x.check ∷ []))) x.spelled;
  complement = x.sum;
}

hex-all : {u : ℕ} {ls : List (List ℕ)} {ps : List Piece} → HexLines u ls ps → All SumsToZero ls
hex-all (s.end h) = (hex-sums h, tt)
hex-all (s.piece h e x) = (hex-sums h, hex-all x)
hex-all (s.upper-half h x) = (hex-sums h, hex-all x)

srec-all : {d e w : ℕ} {ls : List (List ℕ)} {ps : List Piece} → SrecLines d e w ls ps → All Complements ls
srec-all (s.end h) = (srec-sums h, tt)
srec-all (s.piece h x) = (srec-sums h, srec-all x)
srec-all (s.header h x) = (srec-sums h, srec-all x)

-- ---- what is written
module _ (g : Given) (old : List ℕ) (y : w.Outcome) where
  pub hex-written-sums : HexSays g old y → y.answer.refusal ≡ 0 → (ls : List (List ℕ)) × Lines (take y.answer.count y.text) ls × All SumsToZero ls
  hex-written-sums x e = let k = hex-back (hex-filed g old y x e).text in (k.0, k.1, hex-all k.2)

  pub srec-written-sums : (width : ℕ) → SrecSays g old width y → y.answer.refusal ≡ 0
      → (ls : List (List ℕ)) × Lines (take y.answer.count y.text) ls × All Complements ls
  srec-written-sums width x e =
      let f = srec-filed g old width y x e in
      let k = srec-back f.3 f.4.text in
      (k.0, k.1, srec-all k.2)

-- ---- what is read
module _ (load : ℕ) (text : List ℕ) (old : Lent) where
  hex-good : {format : ℕ} {ps : List Piece} → format ≡ 0 → Good format load text ps → (ls : List (List ℕ)) × Lines text ls × All SumsToZero ls
  hex-good e (s.good (s.hex {ls = ls} f lines x) i o) = (ls, lines, hex-all x)
  hex-good e (s.good (s.s-records n v lines x) i o) = absurd (omega arith)

  srec-good : {format : ℕ} {ps : List Piece} → format ≡ 1 → Good format load text ps → (ls : List (List ℕ)) × Lines text ls × All Complements ls
  srec-good n (s.good (s.hex f lines x) i o) = absurd (omega arith)
  srec-good n (s.good (s.s-records {ls = ls} m v lines x) i o) = (ls, lines, srec-all x)

  -- a file that is no bad file
  pub hex-read-sums : (y : s.Outcome) → ReadSays 0 load text old y → Not (y.answer.refusal ≡ 4) → (ls : List (List ℕ)) × Lines text ls × All SumsToZero ls
  hex-read-sums y (s.bad b) n = absurd (n refl)
  hex-read-sums y (s.read g b t) n = hex-good refl g

  pub srec-read-sums : (y : s.Outcome) → ReadSays 1 load text old y → Not (y.answer.refusal ≡ 4)
      → (ls : List (List ℕ)) × Lines text ls × All Complements ls
  srec-read-sums y (s.bad b) n = absurd (n refl)
  srec-read-sums y (s.read g b t) n = srec-good refl g
