-- Laws that Theorems/GivenLaws rests on.
use Rattle.std.specs.Prelude.{◌≡◌, refl, Bool, true, false, ◌&&◌, ◌||◌, List, [], ◌∷◌, ◌++◌, ℕ, ◌+◌, ◌-◌, ◌≤◌, ◌<◌, leb, ltb, length, get_or}
use Rattle.std.proofs.Common.{sym, ap, ◌∙◌, arith, le-leb, lt-ltb, le-ltb, length-append, get_or-append-add}
use Rattle.std.proofs.Math.Decide.{dec_lt}
use Rattle.std.proofs.lemmas.Bool.{lt-leb}
use Rattle.std.proofs.Math.ListN.{get_or-append}
use Rattle.prelude.specs.Laws.Bools.{either, clash}
use Rattle.prelude.specs.Pick.{pick}
use Rattle.record_lines.specs.Pieces.{Piece, piece, end_of}
use Rattle.record_scan.specs.Steps.{highest}
use Rattle.record_read.specs.Given.{holds, given, byte_at}

or_assoc : (a b c : Bool) → (a || b) || c ≡ a || (b || c)
or_assoc true b c = refl
or_assoc false b c = refl

pub given-append : (l m : List Piece) (a : ℕ) → given (l ++ m) a ≡ (given l a || given m a)
unfolding given
given-append [] m a = refl
given-append (p ∷ l) m a = ap (λ (x : Bool). holds p a || x) (given-append l m a) ∙ sym (or_assoc (holds p a) (given l a) (given m a))

pub byte-append : (l m : List Piece) (a old : ℕ) → byte_at (l ++ m) a old ≡ byte_at m a (byte_at l a old)
unfolding byte_at
byte-append [] m a old = refl
byte-append (p ∷ l) m a old = byte-append l m a (pick (holds p a) (get_or p.bytes (a - p.address) 0) old)

-- Nothing is given at the highest end or above.
pub given_above : (l : List Piece) (a : ℕ) → highest l ≤ a → given l a ≡ false
unfolding given highest
given_above [] a h = refl
given_above (p ∷ l) a h =
    let out : ltb a (end_of p) ≡ false = le-ltb a (end_of p) (omega arith) in
    let none : (leb p.address a && false) ≡ false = either (leb p.address a) (λ e. rw e) (λ e. rw e) in
    rw (out, none) (given_above l a (omega arith))

pub given_below : (l : List Piece) (a : ℕ) → given l a ≡ true → a < highest l
given_below l a e = elim (dec_lt a (highest l)) [ yes p ↦ p | no p ↦ absurd (clash e (given_above l a (omega arith))) ]

-- ---- one piece

module _ (a : ℕ) (l : List ℕ) where
  pub holds-in : (x : ℕ) → a ≤ x → x < a + length l → holds (piece a l) x ≡ true
  holds-in x h k = rw (le-leb a x h, lt-ltb x (a + length l) k)

  pub holds-before : (x : ℕ) → x < a → holds (piece a l) x ≡ false
  holds-before x h = rw (lt-leb a x h)

  pub holds-behind : (x : ℕ) → a + length l ≤ x → holds (piece a l) x ≡ false
  holds-behind x h = either (leb a x) (λ e. rw (e, le-ltb x (a + length l) h)) (λ e. rw e)

  pub byte-in : (x old : ℕ) → a ≤ x → x < a + length l → byte_at (piece a l ∷ []) x old ≡ get_or l (x - a) 0
  unfolding byte_at
  byte-in x old h k = rw (holds-in x h k)

  pub byte-before : (x old : ℕ) → x < a → byte_at (piece a l ∷ []) x old ≡ old
  unfolding byte_at
  byte-before x old h = rw (holds-before x h)

  pub byte-behind : (x old : ℕ) → a + length l ≤ x → byte_at (piece a l ∷ []) x old ≡ old
  unfolding byte_at
  byte-behind x old h = rw (holds-behind x h)

-- A piece in two.
pub byte_split : (a : ℕ) (l m : List ℕ) (x old : ℕ)
    → byte_at (piece a (l ++ m) ∷ []) x old ≡ byte_at (piece (a + length l) m ∷ []) x (byte_at (piece a l ∷ []) x old)
byte_split a l m x old =
    let long = length-append l m in
    elim (dec_lt x a) [
      | yes p ↦
          byte-before a (l ++ m) x old p ∙ sym (byte-before (a + length l) m x (byte_at (piece a l ∷ []) x old) (omega arith) ∙ byte-before a l x old p)
      | no p ↦ elim (dec_lt x (a + length l)) [
        | yes q ↦
            byte-in a (l ++ m) x old (omega arith) (omega arith) ∙ get_or-append l m 0 (x - a) (omega arith)
            ∙ sym (byte-before (a + length l) m x (byte_at (piece a l ∷ []) x old) q ∙ byte-in a l x old (omega arith) q)
        | no q ↦ elim (dec_lt x (a + length l + length m)) [
          | yes r ↦
              let e : x - a ≡ length l + (x - (a + length l)) = omega arith in
              byte-in a (l ++ m) x old (omega arith) (omega arith) ∙ ap (λ (i : ℕ). get_or (l ++ m) i 0) e
              ∙ get_or-append-add l m (x - (a + length l)) 0
              ∙ sym (byte-in (a + length l) m x (byte_at (piece a l ∷ []) x old) (omega arith) r)
          | no r ↦
              byte-behind a (l ++ m) x old (omega arith)
              ∙ sym (byte-behind (a + length l) m x (byte_at (piece a l ∷ []) x old) (omega arith) ∙ byte-behind a l x old (omega arith))
        ]
      ]
    ]
