-- The lines of a text and the bytes that digits spell, by the definitions and by the sentences: the same.
use Rattle.std.specs.Prelude.{◌≡◌, refl, Bool, true, false, ◌&&◌, List, [], ◌∷◌, ◌++◌, ◌⊎◌, ℕ, zero, suc, ◌+◌, ◌*◌, ◌-◌, ◌<◌, ◌/◌, ◌%◌, length, get_or}
use Rattle.std.proofs.Common.{ap, ◌∙◌, inl, inr, ⊎_elim, arith, lt-ltb, le-ltb, ltb-true, eqb-true}
use Rattle.std.proofs.Math.Decide.{dec_lt}
use Rattle.std.proofs.lemmas.Bool.{eqb-false}
use Rattle.prelude.specs.Laws.Bools.{either, both}
use Rattle.prelude.specs.Pick.{pick}
use Rattle.prelude.specs.Laws.Pick.{pick_true}
use Rattle.bitvec.specs.Bits.{Bytes}
use Rattle.bitvec.specs.Lists.{list_of}
use Rattle.record_lines.specs.Digits.{value_of, letter_of, is_digit, all_digits, pair_at, bytes_text}
use Rattle.record_lines.specs.Theorems.DigitLaws.{value-below, value-figure, value-between, value-upper, value-middle, value-lower, value-above}
use Rattle.record_lines.specs.Lines.{is_lf, is_cr, in_front, lines_of, first_line}
use Rattle.record_lines.specs.Theorems.Lines.{lines-first}
use Rattle.record_lines.specs.Sums.{sum_of}
use Rattle.sort.specs.Laws.Sorted.{le-or-lt}
use Rattle.says.specs.Records as r
use Rattle.says.specs.Records.{Lines, Case, Digit, Spells, total}
use Rattle.meets_records.specs.Laws.One.{digit-below}

-- ---- sums
pub total-is : (l : List ℕ) → total l ≡ sum_of l
unfolding total sum_of
total-is [] = refl
total-is (b ∷ l) = ap (λ (n : ℕ). b + n) (total-is l)

-- ---- lines
module _ (c d : ℕ) (t : List ℕ) (ls : List (List ℕ)) (first : ls ≡ first_line (d ∷ t) ∷ lines_of (Rattle.record_lines.specs.Lines.behind (d ∷ t)))
    (later : Lines (d ∷ t) ls) where
  goes_on : is_lf c ≡ false → ((c ≡ 13) × (d ≡ 10) → ⊥) → Lines (c ∷ d ∷ t) (in_front c ls)
  goes_on e n = rw first (r.more (eqb-false c 10 e) n (rw first at later))

  joined : (a b e : Bool) → is_lf c ≡ a → is_cr c ≡ b → is_lf d ≡ e → (e ≡ true → ls ≡ [] ∷ lines_of t) → Lines t (lines_of t)
      → Lines (c ∷ d ∷ t) (pick a ([] ∷ ls) (pick (b && e) ls (in_front c ls)))
  joined true b e x y z k l = r.lf (eqb-true c 10 x) later
  joined false true true x y z k l = rw (k refl) (r.cr-lf (eqb-true c 13 y) (eqb-true d 10 z) l)
  joined false true false x y z k l = goes_on x (λ p. eqb-false d 10 z p.1)
  joined false false e x y z k l = goes_on x (λ p. eqb-false c 13 y p.0)

pub lines-meet : (t : List ℕ) → Lines t (lines_of t)
unfolding lines_of
lines-meet [] = r.none
lines-meet (c ∷ []) = either (is_lf c)
    (λ e. rw e (r.lf (eqb-true c 10 e) r.none))
    (λ e. either (is_cr c) (λ f. rw (e, f) (r.last (eqb-false c 10 e))) (λ f. rw (e, f) (r.last (eqb-false c 10 e))))
lines-meet (c ∷ d ∷ t) =
    joined c d t (lines_of (d ∷ t)) (lines-first d t) (lines-meet (d ∷ t)) (is_lf c) (is_cr c) (is_lf d) refl refl refl (λ e. pick_true _ _ e) (lines-meet t)

-- ---- digits
value : {c v : ℕ} → Digit r.either c v → value_of c ≡ v
value {c} (r.figure h e) = value-figure c (omega arith) (omega arith) ∙ omega arith
value {c} (r.letter h (inl e) f) = value-upper c (omega arith) (omega arith) ∙ omega arith
value {c} (r.letter h (inr (k, e)) f) = value-lower c (omega arith) (omega arith) ∙ omega arith

digit : (c : ℕ) → is_digit c ≡ true → Digit r.either c (value_of c)
digit c h =
    let below : value_of c < 16 = ltb-true (value_of c) 16 h in
    ⊎_elim
    (λ a. ⊎_elim
    (λ b. ⊎_elim
    (λ d. ⊎_elim
    (λ e. ⊎_elim
    (λ f. ⊎_elim
    (λ g. absurd (omega (arith, value-above c g)))
    (λ g. let v = value-lower c f g in r.letter {i = c - 97} (omega arith) (inr (refl, omega arith)) (omega arith))
    (le-or-lt 103 c))
    (λ f. absurd (omega (arith, value-middle c e f)))
    (le-or-lt 97 c))
    (λ e. let v = value-upper c d e in r.letter {i = c - 65} (omega arith) (inl (omega arith)) (omega arith))
    (le-or-lt 71 c))
    (λ d. absurd (omega (arith, value-between c b d)))
    (le-or-lt 65 c))
    (λ b. let v = value-figure c a b in r.figure (omega arith) (omega arith))
    (le-or-lt 58 c))
    (λ a. absurd (omega (arith, value-below c a)))
    (le-or-lt 48 c)

-- ---- bytes spelled
pub digits_of : {t bs : List ℕ} → Spells r.either t bs → all_digits t ≡ true
unfolding all_digits
digits_of r.none = refl
digits_of (r.byte {c = c} {d = d} {h = h} {l = l} p q e s) =
    let first : is_digit c ≡ true = lt-ltb (value_of c) 16 (omega (arith, value p, digit-below p)) in
    let second : is_digit d ≡ true = lt-ltb (value_of d) 16 (omega (arith, value q, digit-below q)) in
    rw (first, second) (digits_of s)

pub length-of : {t bs : List ℕ} → Spells r.either t bs → length t ≡ 2 * length bs
length-of r.none = refl
length-of (r.byte p q e s) = omega (arith, length-of s)

pub pairs_of : {t bs : List ℕ} → Spells r.either t bs → (j : ℕ) → j < length bs → pair_at t (2 * j) ≡ get_or bs j 0
pairs_of r.none j h = absurd (omega arith)
pairs_of (r.byte {c = c} {d = d} p q e s) zero h =
    omega (arith, value p, value q, digit-below p, digit-below q)
pairs_of (r.byte p q e s) (suc j) h =
    let a : 2 * suc j ≡ suc (suc (2 * j)) = omega arith in
    let b : 2 * suc j + 1 ≡ suc (suc (2 * j + 1)) = omega arith in
    rw (b, a) (pairs_of s j (omega arith))

pub spelled_by : (n : ℕ) (t : List ℕ) (f : ℕ → ℕ) → all_digits t ≡ true → length t ≡ 2 * n → ((j : ℕ) → j < n → f j ≡ pair_at t (2 * j))
    → Spells r.either t (list_of n f)
unfolding all_digits list_of
spelled_by zero [] f e h same = r.none
spelled_by zero (c ∷ t) f e h same = absurd (omega arith)
spelled_by (suc n) [] f e h same = absurd (omega arith)
spelled_by (suc n) (c ∷ []) f e h same = absurd (omega arith)
spelled_by (suc n) (c ∷ d ∷ t) f e h same =
    let one = both (is_digit c) (all_digits (d ∷ t)) e in
    let two = both (is_digit d) (all_digits t) one.1 in
    let p = digit c one.0 in
    let q = digit d two.0 in
    let x = digit-below p in
    let y = digit-below q in
    let byte : f 0 ≡ 16 * value_of c + value_of d = same 0 (omega arith) ∙ omega arith in
    r.byte p q byte (spelled_by n t (λ j. f (suc j)) two.1 (omega arith) (λ j k.
    let a : 2 * suc j ≡ suc (suc (2 * j)) = omega arith in
    let b : 2 * suc j + 1 ≡ suc (suc (2 * j + 1)) = omega arith in
    rw (b, a) at (same (suc j) (omega arith))))

pub same-list : (n : ℕ) (f g : ℕ → ℕ) → ((j : ℕ) → j < n → f j ≡ g j) → list_of n f ≡ list_of n g
unfolding list_of
same-list zero f g h = refl
same-list (suc n) f g h = rw (h 0 (omega arith), same-list n (λ j. f (suc j)) (λ j. g (suc j)) (λ j k. h (suc j) (omega arith)))

-- a list in two
pub list-split : (a b : ℕ) (f : ℕ → ℕ) → list_of (a + b) f ≡ list_of a f ++ list_of b (λ j. f (a + j))
unfolding list_of
list-split zero b f =
    let e : 0 + b ≡ b = omega arith in
    ap (λ (k : ℕ). list_of k f) e ∙ same-list b f (λ j. f (0 + j)) (λ j h. let e : j ≡ 0 + j = omega arith in ap f e)
list-split (suc a) b f =
    let e : suc a + b ≡ suc (a + b) = omega arith in
    ap (λ (k : ℕ). list_of k f) e
    ∙ ap (λ (l : List ℕ). f 0 ∷ l) (list-split a b (λ j. f (suc j))
    ∙ ap (λ (l : List ℕ). list_of a (λ j. f (suc j)) ++ l) (same-list b (λ j. f (suc (a + j))) (λ j. f (suc a + j))
    (λ j h. let e : suc (a + j) ≡ suc a + j = omega arith in ap f e)))

-- ---- bytes that are written
digit-written : {k : Case} (n : ℕ) → n < 16 → Digit k (letter_of n) n
digit-written n h = elim (dec_lt n 10) [
  | yes p ↦ rw (lt-ltb n 10 p) (r.figure p refl)
  | no p ↦ rw (le-ltb n 10 (omega arith)) (r.letter {i = n - 10} (omega arith) (inl (omega arith)) (omega arith))
]

pub spelled-written : {k : Case} (l : List ℕ) → Bytes l → Spells k (bytes_text l) l
unfolding bytes_text
spelled-written [] h = r.none
spelled-written (b ∷ l) h =
    let s : b < 256 = h 0 in
    r.byte {b = b} (digit-written (b / 16) (omega arith)) (digit-written (b % 16) (omega arith)) (omega arith) (spelled-written l (λ k. h (suc k)))
