-- How a line is spelled, by the definitions' tests and by the sentences, once over both formats: its digits begin at the character `from`.
use Rattle.std.specs.Prelude.{◌≡◌, true, false, ◌⊎◌, ℕ, zero, suc, ◌+◌, ◌*◌, ◌-◌, ◌≤◌, ◌<◌, ◌%◌, ltb, eqb, length, get_or, take, drop}
use Rattle.std.proofs.Math.Path.{refl}
use Rattle.std.proofs.Common.{sym, ap, ap₂, ◌∙◌, subst, ⊎_elim, arith, ltb-true, ltb-false, eqb-true, eq-eqb, length-drop, get_or-drop}
use mathlib.Core.List.{List, [], ◌∷◌, ◌++◌}
use Rattle.std.proofs.Math.Decide.{dec_lt}
use Rattle.prelude.specs.Laws.Bools.{either, both, clash}
use Rattle.prelude.specs.Laws.Pick.{pick_true, pick-false}
use Rattle.bitvec.specs.Lists.{list_of}
use Rattle.record_lines.specs.Digits.{value_of, is_digit, all_digits, pair_at, bytes_at}
use Rattle.record_lines.specs.Sums.{sum_of}
use Rattle.record_lines.specs.Laws.Sums.{sum-list-more, list-one-more}
use Rattle.record_reason.specs.Spelling.{leading, wanted_of}
use Rattle.says.specs.Words.{First}
use Rattle.says.specs.Records as r
use Rattle.says.specs.Records.{Digit, Spells}
use Rattle.meets_records.specs.Laws.One.{spells-bytes}
use Rattle.meets_records.specs.Laws.Spelled.{total-is, digits_of, spelled_by}
use Rattle.says.specs.Reason as s
use Rattle.says.specs.Reason.{Count, Long, Checksum}
use Rattle.meets_reason.specs.Laws.One.{NoDigit, WrongSum, last_one, long-one, checksum-one}

-- ---- one digit
is_digit_lem : {c v : ℕ} → Digit r.either c v → is_digit c ≡ true
unfolding all_digits
is_digit_lem {c} d = (both (is_digit c) (all_digits (c ∷ [])) (digits_of (r.byte d d refl r.none))).0

first-digit : {c d : ℕ} {t bs : List ℕ} → Spells r.either (c ∷ d ∷ t) bs → (v : ℕ) × Digit r.either c v
first-digit (r.byte {h = h} p q e x) = (h, p)

digit-is : (c : ℕ) → is_digit c ≡ true → (v : ℕ) × Digit r.either c v
unfolding all_digits
digit-is c e = first-digit (spelled_by 1 (c ∷ c ∷ []) (λ j. pair_at (c ∷ c ∷ []) (2 * j)) (rw e) refl (λ j h. refl))

-- ---- the first that is none
record Leads (t : List ℕ) : Type 0 where
  inside : leading t < length t
  odd : is_digit (get_or t (leading t) 0) ≡ false
  before : (k : ℕ) → k < leading t → is_digit (get_or t k 0) ≡ true

leads : (t : List ℕ) → all_digits t ≡ false → Leads t
unfolding all_digits leading
leads [] e = absurd (clash refl e)
leads (c ∷ t) e = either (is_digit c) (λ d. on d (leads t (rw d at e)))
    (λ d. let z : leading (c ∷ t) ≡ 0 = pick-false (suc (leading t)) 0 d in record {
      inside = omega arith;
      odd = ap (λ (k : ℕ). is_digit (get_or (c ∷ t) k 0)) z ∙ d;
      before = λ k h. absurd (omega arith);
    })
  where
    on : is_digit c ≡ true → Leads t → Leads (c ∷ t)
    on d x =
        let z : leading (c ∷ t) ≡ suc (leading t) = pick_true (suc (leading t)) 0 d in
        record {
          inside = omega (arith, x.inside);
          odd = ap (λ (k : ℕ). is_digit (get_or (c ∷ t) k 0)) z ∙ x.odd;
          before = λ k h. go k (omega arith);
        }
      where
        go : (k : ℕ) → k < suc (leading t) → is_digit (get_or (c ∷ t) k 0) ≡ true
        go zero h = d
        go (suc k) h = x.before k (omega arith)

all-digit : (t : List ℕ) (k : ℕ) → all_digits t ≡ true → k < length t → is_digit (get_or t k 0) ≡ true
unfolding all_digits
all-digit [] k e h = absurd (omega arith)
all-digit (c ∷ t) zero e h = (both (is_digit c) (all_digits t) e).0
all-digit (c ∷ t) (suc k) e h = all-digit t k (both (is_digit c) (all_digits t) e).1 (omega arith)

module _ (format : ℕ) (l : List ℕ) (from : ℕ) where
  abbrev digits : List ℕ
  digits = drop from l

  place : (k : ℕ) → from ≤ k → get_or digits (k - from) 0 ≡ get_or l k 0
  place k h = let e : from + (k - from) ≡ k = omega arith in get_or-drop from l (k - from) 0 ∙ ap (λ (i : ℕ). get_or l i 0) e

  pub no_digit : all_digits digits ≡ false → First (NoDigit l from) (from + leading digits)
  no_digit e =
      let x = leads digits e in
      record {
        so = (
          omega arith,
          omega (arith, x.inside, length-drop from l),
          λ v d. clash (is_digit_lem d) (ap is_digit (sym (get_or-drop from l (leading digits) 0)) ∙ x.odd),
        );
        none_below = λ k h. elim (dec_lt k (from + leading digits)) [
          | yes p ↦
              let start : from ≤ k = h.0 in
              let d = digit-is (get_or l k 0) (ap is_digit (sym (place k start)) ∙ x.before (k - from) (omega arith)) in
              absurd (h.2 d.0 d.1)
          | no p ↦ omega arith
        ];
      }

  pub all_digits_lem : all_digits digits ≡ true → (k : ℕ) → First (NoDigit l from) k → ⊥
  all_digits_lem e k f =
      let h = f.so in
      let start : from ≤ k = h.0 in
      let d = digit-is (get_or l k 0) (ap is_digit (sym (place k start)) ∙ all-digit digits (k - from) e (omega (arith, h.1, length-drop from l))) in
      h.2 d.0 d.1

  -- ---- bytes from there on
  pair-drop : (k : ℕ) → pair_at l (from + k) ≡ pair_at digits k
  pair-drop k =
      let e : from + k + 1 ≡ from + (k + 1) = omega arith in
      ap₂ (λ (a b : ℕ). 16 * (value_of a % 16) + value_of b % 16) (sym (get_or-drop from l k 0))
      (ap (λ (i : ℕ). get_or l i 0) e ∙ sym (get_or-drop from l (k + 1) 0))

  count-first : (t : List ℕ) → digits ≡ t → all_digits t ≡ true → 2 ≤ length t → Spells r.either (take 2 t) (pair_at t 0 ∷ [])
  unfolding all_digits list_of
  count-first [] e d h = absurd (omega arith)
  count-first (a ∷ []) e d h = absurd (omega arith)
  count-first (a ∷ b ∷ t) e d h =
      let one = both (is_digit a) (all_digits (b ∷ t)) d in
      let two = both (is_digit b) (all_digits t) one.1 in
      spelled_by 1 (a ∷ b ∷ []) (λ j. pair_at (a ∷ b ∷ []) (2 * j)) (rw (one.0, two.0)) refl (λ j k. refl)

  pub count-is : all_digits digits ≡ true → from + 2 ≤ length l → Count format l from (pair_at l from)
  count-is d h =
      let e : from ≡ from + 0 = omega arith in
      subst (λ (c : ℕ). Count format l from c) (sym (ap (pair_at l) e ∙ pair-drop 0)) (count-first digits refl d (omega (arith, length-drop from l)))

  module _ (body least bare : ℕ) (sizes : bare ≡ from + 2 * (body + 1)) (d : all_digits digits ≡ true) where
    abbrev wanted : ℕ
    wanted = wanted_of from body least l

    pub long-is : Long format l from bare least wanted
    long-is = either (ltb (length l) (from + 2))
        (λ t. let e : wanted ≡ from + 2 * (body + 1 + least) = pick_true _ _ t in s.shortest (ltb-true (length l) (from + 2) t) (omega arith))
        (λ t.
        let e : wanted ≡ from + 2 * (body + 1 + pair_at l from) = pick-false _ _ t in
        s.counted (count-is d (ltb-false (length l) (from + 2) t)) (omega arith))

    pub long-right : length l ≡ wanted → (m : ℕ) → Long format l from bare least m × (length l ≡ m → ⊥) → ⊥
    long-right e m x = x.1 (e ∙ long-one format l from bare least long-is x.0)

    -- as long as the count asks for
    pub long-by : length l ≡ wanted → (from + 2 ≤ length l) × (length l ≡ from + 2 * (body + 1 + pair_at l from))
    long-by e = either (ltb (length l) (from + 2))
        (λ t.
        let w : wanted ≡ from + 2 * (body + 1 + least) = pick_true _ _ t in
        absurd (omega (arith, ltb-true (length l) (from + 2) t)))
        (λ t.
        let w : wanted ≡ from + 2 * (body + 1 + pair_at l from) = pick-false _ _ t in
        (ltb-false (length l) (from + 2) t, omega arith))

    -- ---- the checksum
    module _ (long : length l ≡ wanted) where
      abbrev many : ℕ
      many = body + pair_at l from

      abbrev byte : ℕ → ℕ
      byte j = pair_at l (from + 2 * j)

      abbrev others : ℕ
      others = sum_of (bytes_at l from many)

      whole : Spells r.either digits (bytes_at l from many ++ byte many ∷ [])
      whole =
          let size : length digits ≡ 2 * (many + 1) = omega (arith, length-drop from l, (long-by long).1) in
          subst (Spells r.either digits) (list-one-more many byte) (spelled_by (many + 1) digits byte d size (λ j h. pair-drop (2 * j)))

      module _ (target : ℕ) (is : ((format ≡ 0) × (target ≡ 0)) ⊎ ((format ≡ 0 → ⊥) × (target ≡ 255))) where
        abbrev should : ℕ
        should = (256 + target - others % 256) % 256

        checks : Checksum format (bytes_at l from many) should
        checks =
            let t = total-is (bytes_at l from many) in
            ⊎_elim
            (λ x. let z : target ≡ 0 = x.1 in s.hex x.0 (omega arith) (omega arith))
            (λ x. let z : target ≡ 255 = x.1 in s.s-record x.0 (omega arith))
            is

        low : target < 256
        low = ⊎_elim (λ x. omega (arith, x.1)) (λ x. omega (arith, x.1)) is

        pub sum-wrong : eqb (sum_of (bytes_at l from (body + pair_at l from + 1)) % 256) target ≡ false
            → WrongSum format l from (pair_at l (from + 2 * (body + pair_at l from))) ((256 + target - sum_of (bytes_at l from (body + pair_at l from)) % 256) % 256)
        sum-wrong e = (
          bytes_at l from many,
          whole,
          checks,
          λ z.
              let h = low in
              clash (eq-eqb (sum_of (bytes_at l from (many + 1)) % 256) target (omega (arith, z, sum-list-more many byte))) e,
        )

        pub sum-right : eqb (sum_of (bytes_at l from (body + pair_at l from + 1)) % 256) target ≡ true → (a b : ℕ) → WrongSum format l from a b → ⊥
        sum-right e a b (x, p, c, n) =
            let same = last_one x (bytes_at l from many) (spells-bytes p whole) in
            let z = checksum-one format l (subst (λ (y : List ℕ). Checksum format y b) same.0 c) checks in
            let h = low in
            let found : a ≡ byte many = same.1 in
            n (omega (arith, z, eqb-true (sum_of (bytes_at l from (many + 1)) % 256) target e, sum-list-more many byte))
