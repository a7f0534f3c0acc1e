-- The reasons that lie in a line's bytes: past the last address, below the load address, given twice.
use Rattle.std.specs.Prelude.{◌≡◌, refl, false, List, [], ◌∷◌, ℕ, ◌+◌, ◌-◌, ◌≤◌, ◌<◌, max, ltb, length, drop}
use Rattle.std.proofs.Common.{sym, ap, ◌∙◌, subst, inr, arith, ltb-true, ltb-false, le-leb}
use Rattle.prelude.specs.Laws.Bools.{either, clash, unlike}
use Rattle.prelude.specs.Pick.{pick}
use Rattle.record_lines.specs.Items.{gives, bad}
use Rattle.record_lines.specs.Pieces.{Piece, piece, end_of}
use Rattle.record_scan.specs.Reading.{format_by, new_pieces, fine, is_new}
use Rattle.record_scan.specs.Trail.{trail}
use Rattle.record_reason.specs.Spelling.{cause_of}
use Rattle.record_reason.specs.Reasons.{item_of, address_in, giver, lowest, span_cause}
use Rattle.record_reason.specs.declared.Cause.{Cause}
use Rattle.c_answers.specs.declared.DkReason.{DkReason}
use Rattle.says.specs.Words as w
use Rattle.says.specs.Words.{Tries}
use Rattle.says.specs.Records as r
use Rattle.says.specs.Reason as s
use Rattle.says.specs.Reason.{DataLine, LineGives, GivesTo, Past, Below, why, Twice}
use Rattle.meets_reason.specs.Laws.Chain.{told_of}
use Rattle.meets_reason.specs.Laws.One.{data-one, gives_one}
use Rattle.meets_reason.specs.Laws.Items.{gives-item}
use Rattle.meets_reason.specs.Laws.Trails.{lines, line-is}
use Rattle.meets_reason.specs.Laws.Bytes.{covers-to, lowest-first, twice-is}

-- the sentences from here on
abbrev pub SpanSays : (format load : ℕ) (ls : List (List ℕ)) (n st : ℕ) (l : List ℕ) → DkReason → Type 0
SpanSays format load ls n st l =
    Tries (λ (x : ℕ × ℕ). Past format l st x.0 x.1) (λ x. why format load ls n 9 x.0 x.1)
    (Tries (λ (x : ℕ × ℕ). Below format l load ls st x.0 x.1) (λ x. why format load ls n 10 x.0 x.1)
    (Twice format load ls n))

-- What is known of a line at fault that is neither the end record nor skipped: it is bad, or its bytes don't fit in.
pub data AtFault (format load : ℕ) (text : List ℕ) (n : ℕ) (l : List ℕ) : Type 0 where
  broken : format_by format (trail format text n).state l ≡ bad → AtFault format load text n l
  unfit : (a : ℕ) (b : List ℕ) (after : ℕ) → format_by format (trail format text n).state l ≡ gives a b after
      → fine load (trail format text n).given (new_pieces (gives a b after)) ≡ false → AtFault format load text n l

top-low : {format st after top : ℕ} {l : List ℕ} {p : Piece} → DataLine format st l after top p → top ≤ 4294967296
top-low (s.hex f h e) = omega arith
top-low (s.s-record n (r.two a b c d) o h) = omega arith
top-low (s.s-record n (r.four a b c d) o h) = omega arith

-- what is left of `fine` where the bytes lie between the load address and the last
left : (load a : ℕ) (b : List ℕ) (after : ℕ) (given : List Piece) → load ≤ a → a + length b ≤ 4294967296
    → fine load given (new_pieces (gives a b after)) ≡ false → is_new given a (a + length b) ≡ false
left load a [] after given h k e = absurd (clash refl e)
left load a (c ∷ b) after given h k e = rw (le-leb load a h, le-leb (end_of (piece a (c ∷ b))) 4294967296 k) at e

some_byte : (load a : ℕ) (b : List ℕ) (after : ℕ) (given : List Piece) → fine load given (new_pieces (gives a b after)) ≡ false → 0 < length b
some_byte load a [] after given e = absurd (clash refl e)
some_byte load a (c ∷ b) after given e = omega arith

module _ (format load : ℕ) (text : List ℕ) (n : ℕ) (l : List ℕ) (rest : List (List ℕ)) (here : drop n (lines format text) ≡ l ∷ rest)
    (fault : AtFault format load text n l) {after top : ℕ} {p : Piece} (line : DataLine format (trail format text n).state l after top p) where
  abbrev st : ℕ
  st = (trail format text n).state

  abbrev given : List Piece
  given = (trail format text n).given

  abbrev ls : List (List ℕ)
  ls = lines format text

  abbrev end : ℕ
  end = p.address + length p.bytes

  -- the line that gave a byte first, and where
  abbrev told : Cause
  told =
      let first = giver format text p.address end n in
      cause_of 11 first (max p.address (address_in (item_of format text first)))

  fits_in : end ≤ top → LineGives format st l after p
  fits_in h = s.line_gives line (inr h)

  item-is : end ≤ top → item_of format text n ≡ gives p.address p.bytes after
  item-is h = ap (λ (m : List ℕ). format_by format st m) (line-is format text n here) ∙ gives-item format (fits_in h)

  unfit-here : end ≤ top → AtFault format load text n l → fine load given (new_pieces (gives p.address p.bytes after)) ≡ false
  unfit-here h (broken e) = let z : gives p.address p.bytes after ≡ bad = sym (gives-item format (fits_in h)) ∙ e in differ z
    where
      differ : {a c : ℕ} {b : List ℕ} {X : Type 0} → gives a b c ≡ bad → X
      differ z = unlike cc
  unfit-here h (unfit a b c e f) =
      subst (λ (x : Rattle.record_lines.specs.Items.Item). fine load given (new_pieces x) ≡ false) (sym e ∙ gives-item format (fits_in h)) f

  own-byte : end ≤ top → (x : ℕ) → p.address ≤ x → x < end → GivesTo format ls n x
  own-byte h x a b = covers-to format text n x here (p.address, p.bytes, after, item-is h, a, b)

  pub span-says : SpanSays format load ls n st l (told_of n (span_cause format load text n p.address (length p.bytes) top))
  span-says = either (ltb top end)
      (λ t. rw t (w.refused (end - 1, top - 1) (s.past line (ltb-true top end t))))
      (λ f. rw f (w.passed (λ x h. not-past x h (ltb-false top end f)) (inside (ltb-false top end f))))
    where
      not-past : (x : ℕ × ℕ) → Past format l st x.0 x.1 → end ≤ top → ⊥
      not-past (a, b) (s.past {top = m} {p = q} d h) k =
          let same = data-one format d line in
          omega (arith, same.1, ap (λ (y : Piece). y.address + length y.bytes) same.2)

      not-below : (x : ℕ × ℕ) → Below format l load ls st x.0 x.1 → end ≤ top → load ≤ p.address → ⊥
      not-below (a, b) (s.below {p = q} g i h f) k low = omega (arith, ap (λ (y : Piece). y.address) (gives_one format g (fits_in k)).1)

      given-twice : end ≤ top → load ≤ p.address → Twice format load ls n (told_of n told)
      given-twice k low =
          let f = unfit-here k fault in
          let some = some_byte load p.address p.bytes after given f in
          s.twice (twice-is format text n p.address p.bytes after l rest here (item-is k) some
          (left load p.address p.bytes after given low (omega (arith, top-low line)) f))

      inside : end ≤ top
          → Tries (λ (x : ℕ × ℕ). Below format l load ls st x.0 x.1) (λ x. why format load ls n 10 x.0 x.1) (Twice format load ls n)
          (told_of n (pick (ltb p.address load) (cause_of 10 p.address (lowest format text)) told))
      inside k = either (ltb p.address load)
          (λ t.
          let some = some_byte load p.address p.bytes after given (unfit-here k fault) in
          let low = lowest-first format text n p.address (own-byte k p.address (omega arith) (omega arith)) (omega (arith, top-low line)) in
          rw t (w.refused (p.address, lowest format text) (s.below (fits_in k) some (ltb-true p.address load t) low)))
          (λ f. rw f (w.passed (λ x h. not-below x h k (ltb-false p.address load f)) (given-twice k (ltb-false p.address load f))))
