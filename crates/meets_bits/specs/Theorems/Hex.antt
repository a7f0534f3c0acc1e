-- `dk_hex`: by its contract it says the sentences (`hex-meets`), and they leave one outcome (`hex-decides`).
use Rattle.std.specs.Prelude.{◌≡◌, refl, Bool, true, false, ◌&&◌, List, ◌++◌, ℕ, ◌+◌, ◌-◌, ◌*◌, ◌≤◌, ◌<◌, leb, ltb, length, get_or, drop, Ok, Err}
use Rattle.std.proofs.Math.Path.{ap}
use Rattle.std.proofs.Common.{subst, ◌∙◌, ⊎_elim, leb-true, leb-false, ltb-true, ltb-false, length-append, length-drop, ext_get_or}
use native.Mathlib.Omega.{arith}
use Rattle.std.proofs.Math.ListN.{get_or-append}
use Rattle.prelude.specs.Laws.Bools.{either}
use Rattle.prelude.specs.Pick.{pick}
use Rattle.prelude.specs.declared.Refusal.TheVariants.{Malformed, TooShort}
use Rattle.bitvec.specs.HexDigits.{digit_of, padded_bit, digit_value, digit_count, hex_of}
use Rattle.bitvec.specs.Theorems.HexDigits.{padded_bit-own, padded_bit-past, length-hex_of, hex_of-digit, digit_value-lt, hex-kept}
use Rattle.bitvec.specs.Numeral.{numeral}
use Rattle.bitvec.specs.Within.{ends_within}
use Rattle.c_model.specs.Parts.{HexTold}
use Rattle.c_answers.specs.Counts.{hex_count}
use Rattle.c_answers.specs.declared.DkCount.{DkCount}
use Rattle.sort.specs.Laws.Sorted.{le-or-lt}
use Rattle.meets.specs.Laws.Words.{OneOnly, tries-one, begins-one}
use Rattle.says.specs.Words.{refused, passed, Begins}
use Rattle.says.specs.Hex as says
use Rattle.says.specs.Hex.{Digit, Bit, Prints, Text, Accepts, Printed, HexSays}

-- ---- they leave one outcome

digit-one : (v c d : ℕ) → Digit v c → Digit v d → c ≡ d
digit-one v c d (says.figure h e) (says.figure g f) = omega arith
digit-one v c d (says.figure h e) (says.letter l f g) = absurd (omega arith)
digit-one v c d (says.letter l f g) (says.figure h e) = absurd (omega arith)
digit-one v c d (says.letter l f g) (says.letter m h k) = omega arith

module _ (bytes : List ℕ) (bits : ℕ) where
  bit-one : (k : ℕ) → OneOnly (Bit bytes bits k)
  bit-one k x y (says.own h) (says.own g) = refl
  bit-one k x y (says.own h) (says.padding g) = absurd (omega arith)
  bit-one k x y (says.padding h) (says.own g) = absurd (omega arith)
  bit-one k x y (says.padding h) (says.padding g) = refl

  prints-one : (k : ℕ) → OneOnly (Prints bytes bits k)
  prints-one k x y (says.prints {a} {b} {c} {d} p q r s t) (says.prints {a = e} {b = f} {c = g} {d = h} p' q' r' s' u) =
      digit-one (8 * a + 4 * b + 2 * c + d) x y t (subst (λ (v : ℕ). Digit v y)
      (omega (arith, bit-one (4 * k) a e p p', bit-one (4 * k + 1) b f q q', bit-one (4 * k + 2) c g r r', bit-one (4 * k + 3) d h s s')) u)

  pub text-one : OneOnly (Text bytes bits)
  text-one t u f g =
      let long : length t ≡ length u = omega (arith, f.enough, f.no_more, g.enough, g.no_more) in
      ext_get_or 0 t u long (λ k h. prints-one k (get_or t k 0) (get_or u k 0) (f.each k h) (g.each k (omega arith)))

  module _ (old : List ℕ) where
    accepts-one : (t : List ℕ) → OneOnly (Accepts bytes bits old t)
    accepts-one t y z (says.accepts f) (says.accepts g) = rw (begins-one t old _ _ f g)

    printed-one : OneOnly (Printed bytes bits old)
    printed-one y z (says.printed {t} f p) (says.printed {t = u} g q) =
        let same : t ≡ u = text-one t u f g in
        tries-one (λ (_ : Unit {0}). length old < length t) (λ _. says.refusal bytes bits old 14 3) (Accepts bytes bits old t) (λ a b m n. refl)
        (accepts-one t) y z p (rw (← same) at q)

    pub hex-decides : OneOnly (HexSays bytes bits old)
    hex-decides = tries-one (λ (_ : Unit {0}). 8 * length bytes < bits) (λ _. says.refusal bytes bits old 4 0) (Printed bytes bits old) (λ a b m n. refl)
        printed-one

-- ---- the contract says them

digit-meets : (v : ℕ) → v < 16 → Digit v (digit_of v)
digit-meets v h = either (ltb v 10)
    (λ t. rw t (says.figure (ltb-true v 10 t) refl))
    (λ f. let ge : 10 ≤ v = ltb-false v 10 f in rw f (letter-of ge))
  where
    letter-of : 10 ≤ v → Digit v (87 + v)
    letter-of ge = let some : (i : ℕ) × (v ≡ 10 + i) = (v - 10, omega arith) in
        says.letter {i = some.0} (omega (arith, some.1)) some.1 (omega (arith, some.1))

module _ (bytes : List ℕ) (bits : ℕ) where
  bit-meets : (k : ℕ) → Bit bytes bits k (padded_bit bytes bits k)
  bit-meets k = ⊎_elim
      (λ le. rw (padded_bit-past bytes bits k le) (says.padding le))
      (λ lt. rw (padded_bit-own bytes bits k lt) (says.own lt))
      (le-or-lt bits k)

  value-is : (k : ℕ) → digit_value bytes bits k
      ≡ 8 * padded_bit bytes bits (4 * k) + 4 * padded_bit bytes bits (4 * k + 1) + 2 * padded_bit bytes bits (4 * k + 2) + padded_bit bytes bits (4 * k + 3)
  unfolding digit_value numeral
  value-is k = let first : 4 * k + 0 ≡ 4 * k = omega arith in omega (arith, ap (padded_bit bytes bits) first)

  prints-meets : (k : ℕ) → k < digit_count bits → Prints bytes bits k (get_or (hex_of bytes bits) k 0)
  prints-meets k h = rw (hex_of-digit bytes bits k h) (says.prints (bit-meets (4 * k)) (bit-meets (4 * k + 1)) (bit-meets (4 * k + 2)) (bit-meets (4 * k + 3))
      (rw (← (value-is k)) (digit-meets (digit_value bytes bits k) (digit_value-lt bytes bits k))))

  pub text-meets : Text bytes bits (hex_of bytes bits)
  text-meets = record {
    enough = omega (arith, length-hex_of bytes bits);
    no_more = omega (arith, length-hex_of bytes bits);
    each = λ k h. prints-meets k (omega (arith, length-hex_of bytes bits));
  }

  module _ (old : List ℕ) where
    abbrev text : List ℕ
    text = hex_of bytes bits

    begins : digit_count bits ≤ length old → Begins text old (text ++ drop (digit_count bits) old)
    begins h = record {
      as_long = length-append text (drop (digit_count bits) old) ∙ omega (arith, length-hex_of bytes bits, length-drop (digit_count bits) old);
      front = λ i k. get_or-append text (drop (digit_count bits) old) 0 i k;
      kept = λ i k. hex-kept bytes bits old i (omega (arith, length-hex_of bytes bits));
    }

    answered : (p q : Bool) → ends_within (length bytes) 0 bits ≡ p → leb (digit_count bits) (length old) ≡ q → HexSays bytes bits old (record {
      answer = hex_count (pick p (pick q (Ok (digit_count bits)) (Err (TooShort 3))) (Err (Malformed 0)));
      hex = pick (p && q) (text ++ drop (digit_count bits) old) old;
    })
    answered false q e f = let h = leb-false (0 + bits) (8 * length bytes) e in refused tt (omega arith)
    answered true false e f =
        let h = leb-true (0 + bits) (8 * length bytes) e in
        let short = leb-false (digit_count bits) (length old) f in
        passed (λ _ lt. omega arith) (says.printed text-meets (refused tt (omega (arith, length-hex_of bytes bits))))
    answered true true e f =
        let h = leb-true (0 + bits) (8 * length bytes) e in
        let room = leb-true (digit_count bits) (length old) f in
        passed (λ _ lt. omega arith) (says.printed text-meets (passed (λ _ lt. omega (arith, length-hex_of bytes bits))
        (subst (λ (n : ℕ). Accepts bytes bits old text (record {
          answer = record { refusal = 0; place = 0; count = n };
          hex = text ++ drop (digit_count bits) old;
        })) (length-hex_of bytes bits) (says.accepts (begins room)))))

    pub hex-meets : (r : DkCount) (new : List ℕ) → HexTold bytes bits old r new → HexSays bytes bits old (record { answer = r; hex = new })
    hex-meets r new c = rw (c.answer, c.digits)
        (answered (ends_within (length bytes) 0 bits) (leb (digit_count bits) (length old)) refl refl)
