-- A text that was accepted for writing, by its sentences: the text that stands at the front of the lent one, its pieces, and that its lines are those of a
-- file to be read. From the sentences alone.
use Rattle.std.specs.Prelude.{◌≡◌, refl, List, [], ◌∷◌, ◌++◌, ◌⊎◌, ℕ, ◌+◌, ◌≤◌, ◌<◌, length, take}
use Rattle.std.proofs.Common.{sym, ◌∙◌, subst, inl, inr, ⊎_elim, arith, length-take, ext_get_or, get_or-take}
use Rattle.sort.specs.Laws.Sorted.{le-or-lt}
use Rattle.record_lines.specs.Pieces.{Piece}
use Rattle.says.specs.Words as words
use Rattle.says.specs.Words.{Begins}
use Rattle.says.specs.Records as r
use Rattle.says.specs.Records.{Digit, Spells, Hex, Srec, Width, Lines}
use Rattle.says.specs.Write as w
use Rattle.says.specs.Write.{Given, Outcome, HexText, SrecText, Cuts, BadPart, BadPlace, HexSays, SrecSays}
use Rattle.says.specs.Read as s
use Rattle.says.specs.Read.{HexLines, SrecLines}
use Rattle.meets_records.specs.Laws.Front.{Leaves}
use Rattle.meets_records.specs.Laws.Formats.{line-ended, hex-above, srec-above}

-- ---- upper case is either case
digit-either : {c v : ℕ} → Digit r.upper c v → Digit r.either c v
digit-either (r.figure h e) = r.figure h e
digit-either (r.letter h e f) = r.letter h (⊎_elim inl (λ x. inr (refl, x.1)) e) f

spells-either : {t b : List ℕ} → Spells r.upper t b → Spells r.either t b
spells-either r.none = r.none
spells-either (r.byte p q e x) = r.byte (digit-either p) (digit-either q) e (spells-either x)

pub hex-either : {l b : List ℕ} {t f : ℕ} → Hex r.upper l t f b → Hex r.either l t f b
hex-either x = record {
  digits = x.digits;
  high = x.high;
  low = x.low;
  check = x.check;
  colon = x.colon;
  spelled = spells-either x.spelled;
  address = x.address;
  sum = x.sum;
}

pub srec-either : {l b : List ℕ} {kind w a : ℕ} → Srec r.upper l kind w a b → Srec r.either l kind w a b
srec-either x = record {
  s = x.s;
  digits = x.digits;
  count = x.count;
  field = x.field;
  check = x.check;
  front = x.front;
  letter = ⊎_elim inl (λ e. inr (refl, e.1)) x.letter;
  spelled = spells-either x.spelled;
  counts = x.counts;
  number = x.number;
  sum = x.sum;
}

-- ---- the lines of a text that was written
pub hex-back : {u : ℕ} {ps : List Piece} {t : List ℕ} → HexText u ps t → (ls : List (List ℕ)) × Lines t ls × HexLines u ls ps
hex-back (w.end {l = l} h) = (l ∷ [], line-ended l [] [] (hex-above (hex-either h)) r.none, s.end (hex-either h))
hex-back (w.same {l = l} {t = t} e h x) =
    let k = hex-back x in
    (l ∷ k.0, line-ended l t k.0 (hex-above (hex-either h)) k.1, s.piece (hex-either h) e k.2)
hex-back (w.differs {v = v} {l = l} {m = m} {t = t} {p = p} {ps = ps} e n h c d x) =
    let k = hex-back x in
    let lines : HexLines v (m ∷ k.0) (p ∷ ps) = s.piece (hex-either d) e k.2 in (
      l ∷ m ∷ k.0,
      line-ended l (m ++ (10 ∷ t)) (m ∷ k.0) (hex-above (hex-either c)) (line-ended m t k.0 (hex-above (hex-either d)) k.1),
      s.upper-half (hex-either c) (subst (λ (u : ℕ). HexLines u (m ∷ k.0) (p ∷ ps)) h lines),
    )

digits_above : {d e w top : ℕ} → Width d e w top → (13 < d) × (13 < e)
digits_above (r.two a b c f) = (omega arith, omega arith)
digits_above (r.four a b c f) = (omega arith, omega arith)

pub srec-back : {d e w top : ℕ} → Width d e w top → {ps : List Piece} {t : List ℕ} → SrecText d e w ps t
    → (ls : List (List ℕ)) × Lines t ls × SrecLines d e w ls ps
srec-back v (w.end {l = l} h) = (l ∷ [], line-ended l [] [] (srec-above (digits_above v).1 (srec-either h)) r.none, s.end (srec-either h))
srec-back v (w.next {l = l} {t = t} h x) =
    let k = srec-back v x in
    (l ∷ k.0, line-ended l t k.0 (srec-above (digits_above v).0 (srec-either h)) k.1, s.piece (srec-either h) k.2)

-- ---- the text that stands at the front
pub front-is : (t old new : List ℕ) → length t ≤ length old → Begins t old new → take (length t) new ≡ t
front-is t old new h b =
    let long : length (take (length t) new) ≡ length t = length-take (length t) new ∙ omega (arith, b.as_long) in
    ext_get_or 0 (take (length t) new) t long (λ i k. get_or-take (length t) new i 0 (omega arith) ∙ b.front i (omega arith))

module _ (g : Given) (old : List ℕ) where
  left_is : (t : List ℕ) (y : Outcome) → Leaves g old t y → y.answer.refusal ≡ 0 → take y.answer.count y.text ≡ t
  left_is t y (words.refused x m) e = let z : ◌≡◌ {A = ℕ} 14 0 = e in absurd (omega arith)
  left_is t y (words.passed none (w.accepts {new} b)) e =
      let room : length t ≤ length old = fits (length t) (length old) (none tt) in
      front-is t old new room b
    where
      fits : (m n : ℕ) → (n < m → ⊥) → m ≤ n
      fits m n h = ⊎_elim (λ le. le) (λ lt. absurd (h lt)) (le-or-lt m n)

  -- What an accepted file is.
  pub record Filed (Text : List Piece → List ℕ → Type 0) (top : ℕ) (y : Outcome) : Type 0 where
    pub pieces : List Piece
    pub cuts : Cuts g g.offsets g.sizes pieces
    pub text : Text pieces (take y.answer.count y.text)
    pub parts : BadPart g → ⊥
    pub places : BadPlace g top → ⊥

  pub hex-filed : (y : Outcome) → HexSays g old y → y.answer.refusal ≡ 0 → Filed (HexText 0) 4294967296 y
  hex-filed y (words.refused x m) e = let z : ◌≡◌ {A = ℕ} 16 0 = e in absurd (omega arith)
  hex-filed y (words.passed a (words.refused x m)) e = let z : ◌≡◌ {A = ℕ} 4 0 = e in absurd (omega arith)
  hex-filed y (words.passed a (words.passed b (w.written {ps} {t} c x l))) e = record {
    pieces = ps;
    cuts = c;
    text = subst (HexText 0 ps) (sym (left_is t y l e)) x;
    parts = a tt;
    places = b tt;
  }

  pub srec-filed : (width : ℕ) (y : Outcome) → SrecSays g old width y → y.answer.refusal ≡ 0
      → (d : ℕ) × (e : ℕ) × (top : ℕ) × Width d e width top × Filed (SrecText d e width) top y
  srec-filed width y (words.refused x m) e = let z : ◌≡◌ {A = ℕ} 16 0 = e in absurd (omega arith)
  srec-filed width y (words.passed a (words.refused x m)) e = let z : ◌≡◌ {A = ℕ} 4 0 = e in absurd (omega arith)
  srec-filed width y (words.passed a (words.passed b (w.placed v (words.refused x m)))) e = let z : ◌≡◌ {A = ℕ} 4 0 = e in absurd (omega arith)
  srec-filed width y (words.passed a (words.passed b (w.placed {d} {e} {top} v (words.passed c (w.written {ps} {t} q x l))))) f = (
    d,
    e,
    top,
    v,
    record {
      pieces = ps;
      cuts = q;
      text = subst (SrecText d e width ps) (sym (left_is t y l f)) x;
      parts = a tt;
      places = c tt;
    },
  )
