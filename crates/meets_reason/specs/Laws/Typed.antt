-- The reasons that lie in a line's type: the type itself, the width, the count, the address field.
use Rattle.std.specs.Prelude.{◌≡◌, refl, true, false, List, ◌⊎◌, ℕ, ◌+◌, ◌*◌, ◌-◌, ◌≤◌, ◌<◌, leb, eqb, length, get_or}
use Rattle.std.proofs.Common.{sym, ap, ◌∙◌, subst, inl, inr, ⊎_elim, arith}
use borrow.Author.Tests.{leb-true, leb-false, eqb-true, eqb-false, eq-eqb, ne_eqb, lt-ltb}
use Rattle.prelude.specs.Laws.Bools.{either, clash}
use Rattle.prelude.specs.Pick.{pick}
use Rattle.bitvec.specs.Laws.Lists.{length-list_of}
use Rattle.record_lines.specs.Digits.{pair_at, bytes_at}
use Rattle.record_lines.specs.Items.{Item}
use Rattle.record_ihex_line.specs.Format.{word_at, count_of, field_of, type_of, good_line, by_type, hex_item}
use Rattle.record_srec_line.specs.Srec.{data_digit, end_digit, is_sound, agrees, end_line, header_line, typed, srec_item}
use Rattle.record_srec_line.specs.ReadBack as back
use Rattle.record_scan.specs.Reading.{format_by}
use Rattle.record_scan.specs.Trail.{trail}
use Rattle.record_reason.specs.Spelling.{cause_of, nothing, or_else, fields_of, hex_typed, data_typed, end_typed, srec_typed}
use Rattle.record_reason.specs.declared.Cause.{Cause}
use Rattle.c_answers.specs.declared.DkReason.{DkReason}
use Rattle.says.specs.Words as w
use Rattle.says.specs.Words.{Tries, First, At}
use Rattle.says.specs.Records as r
use Rattle.says.specs.Records.{Hex, Width}
use Rattle.meets_records.specs.Laws.One.{hex-one}
use Rattle.meets_records.specs.Laws.HexLine.{good-hex}
use Rattle.meets_records.specs.Laws.SrecLine.{width_is}
use Rattle.meets_records.specs.Theorems.ReadDecides.{distinct, by-data}
use Rattle.says.specs.Reason as s
use Rattle.says.specs.Reason.{LineAt, Spelling, Count, Long, OtherType, OtherWidth, OtherCount, Ended, FaultLine, why}
use Rattle.meets_reason.specs.Laws.One.{NoDigit, WrongSum, OtherField, at_one, inside, count-one, width-by}
use Rattle.meets_reason.specs.Laws.Items.{Kept, ended, skipped, clashes, own-width, agrees-own, as-hex, as-srec}
use Rattle.meets_reason.specs.Laws.Chain.{told_of, unless, where-so}
use Rattle.meets_reason.specs.Laws.Span.{SpanSays, AtFault, broken, unfit}

-- the sentences from here on
abbrev pub FieldSays : (format load : ℕ) (ls : List (List ℕ)) (n st : ℕ) (l : List ℕ) → DkReason → Type 0
FieldSays format load ls n st l = Tries (OtherField format l) (λ f. why format load ls n 8 f 0) (SpanSays format load ls n st l)

abbrev pub CountSays : (format load : ℕ) (ls : List (List ℕ)) (n st : ℕ) (l : List ℕ) → DkReason → Type 0
CountSays format load ls n st l =
    Tries (λ (x : ℕ × ℕ). OtherCount format l x.0 x.1) (λ x. why format load ls n 4 x.0 x.1) (FieldSays format load ls n st l)

abbrev pub TypeSays : (format load : ℕ) (ls : List (List ℕ)) (n st : ℕ) (l : List ℕ) → DkReason → Type 0
TypeSays format load ls n st l =
    Tries (OtherType format l) (λ t. why format load ls n 6 t 0)
    (Tries (OtherWidth format l st) (λ w. why format load ls n 7 w st) (CountSays format load ls n st l))

-- and all of them, from how a line is spelled on
abbrev pub Starts : (capital small : ℕ) → List ℕ → Type 0
Starts capital small l = At l 0 capital ⊎ At l 0 small

abbrev pub LineChain : (format load : ℕ) (ls : List (List ℕ)) (n st capital small from bare least : ℕ) (l : List ℕ) → DkReason → Type 0
LineChain format load ls n st capital small from bare least l =
    Tries (λ (_ : Unit {0}). Starts capital small l → ⊥) (λ _. why format load ls n 1 0 0)
    (Tries (First (NoDigit l from)) (λ k. why format load ls n 2 k (get_or l k 0))
    (Tries (λ (m : ℕ). Long format l from bare least m × (length l ≡ m → ⊥)) (λ m. why format load ls n 3 (length l) m)
    (Tries (λ (c : ℕ). Count format l from c × (c < least)) (λ c. why format load ls n 4 c least)
    (Tries (λ (x : ℕ × ℕ). WrongSum format l from x.0 x.1) (λ x. why format load ls n 5 x.0 x.1)
    (TypeSays format load ls n st l)))))

-- a line with its reason, and the file's line with it
pub data LineSays (format load : ℕ) (ls : List (List ℕ)) (n : ℕ) (y : DkReason) : Type 0 where
  line-says : {st capital small from bare least : ℕ} {l : List ℕ} → LineAt format 0 ls n st l → Spelling format capital small from bare least
      → LineChain format load ls n st capital small from bare least l y → LineSays format load ls n y

pub lined : {format load n : ℕ} {ls : List (List ℕ)} {y : DkReason} → (Ended format load ls n → ⊥) → LineSays format load ls n y → FaultLine format load ls n y
lined m (line-says x f t) = s.line m x f t

-- a line at fault is neither an end record nor skipped
not-kept : (format load : ℕ) (text : List ℕ) (n : ℕ) (l : List ℕ) {x : Item} → AtFault format load text n l → Kept x
    → format_by format (trail format text n).state l ≡ x → ⊥
not-kept format load text n l (broken e) k f = clashes k (sym f) (inl e)
not-kept format load text n l (unfit a b c e g) k f = clashes k (sym f) (inr (a, b, c, e))

module _ (format load : ℕ) (text : List ℕ) (ls : List (List ℕ)) (n : ℕ) (l : List ℕ) (fault : AtFault format load text n l) where
  abbrev st : ℕ
  st = (trail format text n).state

  -- ---- Intel HEX
  module _ (f : format ≡ 0) (good : good_line l ≡ true) where
    line : Hex r.either l (type_of l) (field_of l) (bytes_at l 9 (count_of l))
    line = good-hex l good

    few : length (bytes_at l 9 (count_of l)) ≡ count_of l
    few = length-list_of (count_of l) (λ j. pair_at l (9 + 2 * j))

    no-width : (v : ℕ) → OtherWidth format l st v → ⊥
    no-width v (s.other_width m a b c d e) = m f

    no-type : (type_of l ≡ 0) ⊎ ((type_of l ≡ 1) ⊎ (type_of l ≡ 4)) → (t : ℕ) → OtherType format l t → ⊥
    no-type o t (s.hex g h a b c) =
        let e = (hex-one h line).0 in
        ⊎_elim (λ z. a (e ∙ z)) (λ y. ⊎_elim (λ z. b (e ∙ z)) (λ z. c (e ∙ z)) y) o
    no-type o t (s.s-record m x a b c d e) = m f

    counts : (x : ℕ × ℕ) → OtherCount format l x.0 x.1
        → (((type_of l ≡ 1) × (x.1 ≡ 0)) ⊎ ((type_of l ≡ 4) × (x.1 ≡ 2))) × (count_of l ≡ x.1 → ⊥)
    counts (c, d) (s.hex {b = b} g h o e m) =
        let same = hex-one h line in
        let size : length b ≡ count_of l = ap (λ (k : List ℕ). length k) same.2 ∙ few in (
          ⊎_elim (λ z. inl (sym same.0 ∙ z.0, z.1)) (λ z. inr (sym same.0 ∙ z.0, z.1)) o,
          λ z. m (e ∙ size ∙ z),
        )
    counts (c, d) (s.s-record m v i j (inl (x, k))) = absurd (m f)
    counts (c, d) (s.s-record m v i j (inr (x, k))) = absurd (m f)

    fields : (g : ℕ) → OtherField format l g → (type_of l ≡ 1) ⊎ (type_of l ≡ 4)
    fields g (t, b, i, h, o, m) = let e = (hex-one h line).0 in ⊎_elim (λ z. inl (sym e ∙ z)) (λ z. inr (sym e ∙ z)) o

    module _ (rest : Cause) where
      -- types 01 and 04, with their count
      special : (c : ℕ) → ((type_of l ≡ 1) × (c ≡ 0)) ⊎ ((type_of l ≡ 4) × (c ≡ 2)) → (count_of l ≡ c → field_of l ≡ 0 → ⊥)
          → CountSays format load ls n st l (told_of n (or_else (fields_of c l) rest))
      special c o never =
          unless n (eqb (pair_at l 1) c) (pair_at l 1, c) (cause_of 4 (pair_at l 1) c) (cause_of 8 (word_at l 3) 0) rest refl refl
          (λ e. s.hex f line o (sym few) (eqb-false (pair_at l 1) c e))
          (λ e x h. same x h (eqb-true (pair_at l 1) c e))
          (λ e. w.refused (word_at l 3) (type_of l, _, f, line, ⊎_elim (λ z. inl z.0) (λ z. inr z.0) o, λ z. never (eqb-true (pair_at l 1) c e) z))
        where
          same : (x : ℕ × ℕ) → OtherCount format l x.0 x.1 → count_of l ≡ c → ⊥
          same (a, b) h e =
              let k = counts (a, b) h in
              k.1 (e ∙ ⊎_elim (λ z. ⊎_elim (λ y. omega (arith, z.1, y.1)) (λ y. absurd (omega (arith, z.0, y.0))) o)
              (λ z. ⊎_elim (λ y. absurd (omega (arith, z.0, y.0))) (λ y. omega (arith, z.1, y.1)) o) k.0)

      not_end : type_of l ≡ 1 → count_of l ≡ 0 → field_of l ≡ 0 → ⊥
      unfolding hex_item by_type
      not_end t c g = not-kept format load text n l fault ended (as-hex format f st l ∙
          rw (good, ne_eqb (type_of l) 0 (λ e. omega arith), eq-eqb (field_of l) 0 g, eq-eqb (type_of l) 1 t, eq-eqb (count_of l) 0 c) refl)

      not-upper : type_of l ≡ 4 → count_of l ≡ 2 → field_of l ≡ 0 → ⊥
      unfolding hex_item by_type
      not-upper t c g = not-kept format load text n l fault (skipped {a = word_at l 9}) (as-hex format f st l ∙
          rw (
            good,
            ne_eqb (type_of l) 0 (λ e. omega arith),
            eq-eqb (field_of l) 0 g,
            ne_eqb (type_of l) 1 (λ e. omega arith),
            eq-eqb (type_of l) 4 t,
            eq-eqb (count_of l) 2 c,
          ) refl)

      pub hex-typed : (type_of l ≡ 0 → SpanSays format load ls n st l (told_of n rest)) → TypeSays format load ls n st l (told_of n (or_else (hex_typed l) rest))
      hex-typed span = either (eqb (pair_at l 7) 0)
          (λ a. let t : type_of l ≡ 0 = eqb-true (pair_at l 7) 0 a in
          rw a (w.passed (no-type (inl t)) (w.passed no-width (w.passed (λ x h. ⊎_elim (λ z. omega (arith, z.0)) (λ z. omega (arith, z.0)) (counts x h).0)
          (w.passed (λ g h. ⊎_elim (λ z. omega arith) (λ z. omega arith) (fields g h)) (span t))))))
          (λ a. either (eqb (pair_at l 7) 1)
          (λ b. let t : type_of l ≡ 1 = eqb-true (pair_at l 7) 1 b in
          rw (a, b) (w.passed (no-type (inr (inl t))) (w.passed no-width (special 0 (inl (t, refl)) (not_end t)))))
          (λ b. either (eqb (pair_at l 7) 4)
          (λ c. let t : type_of l ≡ 4 = eqb-true (pair_at l 7) 4 c in
          rw (a, b, c) (w.passed (no-type (inr (inr t))) (w.passed no-width (special 2 (inr (t, refl)) (not-upper t)))))
          (λ c. rw (a, b, c) (w.refused (pair_at l 7)
          (s.hex f line (eqb-false (pair_at l 7) 0 a) (eqb-false (pair_at l 7) 1 b) (eqb-false (pair_at l 7) 4 c))))))

  -- ---- S-records
  module _ (m : format ≡ 0 → ⊥) (sound : is_sound l ≡ true) (long : 1 < length l) (count : Count format l 2 (pair_at l 2)) (three : 3 ≤ pair_at l 2) where
    abbrev kind : ℕ
    kind = get_or l 1 0

    second : At l 1 kind
    second = (long, inside l 1 kind 0 long)

    second_is : (k : ℕ) → kind ≡ k → At l 1 k
    second_is k e = subst (λ (x : ℕ). At l 1 x) e second

    no_field : (g : ℕ) → OtherField format l g → ⊥
    no_field g (t, b, f, h, o, e) = m f

    data-known : {v : ℕ} → back.Width v → kind ≡ data_digit v → (t : ℕ) → OtherType format l t → ⊥
    data-known v e t (s.hex f h a b c) = m f
    data-known back.two e t (s.s-record g x a b c d i) = b (at_one l 1 x second ∙ e)
    data-known back.four e t (s.s-record g x a b c d i) = c (at_one l 1 x second ∙ e)

    end_known : {v : ℕ} → back.Width v → kind ≡ end_digit v → (t : ℕ) → OtherType format l t → ⊥
    end_known v e t (s.hex f h a b c) = m f
    end_known back.two e t (s.s-record g x a b c d i) = i (at_one l 1 x second ∙ e)
    end_known back.four e t (s.s-record g x a b c d i) = d (at_one l 1 x second ∙ e)

    no-width-other : {v : ℕ} → back.Width v → (kind ≡ data_digit v) ⊎ (kind ≡ end_digit v) → agrees st v ≡ true → (u : ℕ) → OtherWidth format l st u → ⊥
    no-width-other {v} b o e u (s.other_width g x y k i j) =
        let same : u ≡ v = width-by format l x (width_is b) (at_one l 1 y second) k o in
        ⊎_elim (λ z. i z) (λ z. j (z ∙ sym same)) (own-width st v e)

    wrong-width : {v : ℕ} → back.Width v → (kind ≡ data_digit v) ⊎ (kind ≡ end_digit v) → agrees st v ≡ false → OtherWidth format l st v
    wrong-width {v} b o e = s.other_width m (width_is b) second o (λ z. clash (agrees-own st v (inl z)) e) (λ z. clash (agrees-own st v (inr z)) e)

    module _ (rest : Cause) where
      enough : {v : ℕ} → back.Width v → kind ≡ data_digit v → v < pair_at l 2 → (x : ℕ × ℕ) → OtherCount format l x.0 x.1 → ⊥
      enough {v} b e h (c, d) (s.hex f i o j k) = m f
      enough {v} b e h (c, d) (s.s-record g x i j (inl (y, k))) =
          omega (arith, count-one format l 2 i count, by-data (width_is b) x (at_one l 1 (second_is (data_digit v) e) y))
      enough {v} b e h (c, d) (s.s-record g x i j (inr (y, k))) = (distinct (width_is b) x).0 (at_one l 1 (second_is (data_digit v) e) y)

      data-typed : {v : ℕ} → back.Width v → kind ≡ data_digit v → (agrees st v ≡ true → v < pair_at l 2 → SpanSays format load ls n st l (told_of n rest))
          → TypeSays format load ls n st l (told_of n (or_else (data_typed v st l) rest))
      data-typed {v} b e span =
          w.passed (data-known b e)
          (unless n (agrees st v) v (cause_of 7 v st) (pick (leb (pair_at l 2) v) (cause_of 4 (pair_at l 2) (v + 1)) nothing) rest refl refl
          (wrong-width b (inl e))
          (λ a. no-width-other b (inl e) a)
          (λ a. where-so n (leb (pair_at l 2) v) (pair_at l 2, v + 1) (cause_of 4 (pair_at l 2) (v + 1)) nothing rest refl refl
          (λ t. s.s-record m (width_is b) count refl (inl (second_is (data_digit v) e, omega (arith, leb-true (pair_at l 2) v t))))
          (λ t. enough b e (leb-false (pair_at l 2) v t))
          (λ t. w.passed no_field (span a (leb-false (pair_at l 2) v t)))))

      not-end-record : {v : ℕ} → back.Width v → kind ≡ end_digit v → agrees st v ≡ true → pair_at l 2 ≡ v + 1 → ⊥
      unfolding srec_item typed end_line
      not-end-record back.two e a c =
          not-kept format load text n l fault ended (as-srec format m st l ∙ rw (sound, e, a, eq-eqb (pair_at l 2) 3 c) refl)
      not-end-record back.four e a c =
          not-kept format load text n l fault ended (as-srec format m st l ∙ rw (sound, e, a, eq-eqb (pair_at l 2) 5 c) refl)

      end-typed : {v : ℕ} → back.Width v → kind ≡ end_digit v → TypeSays format load ls n st l (told_of n (or_else (end_typed v st l) rest))
      end-typed {v} b e =
          w.passed (end_known b e)
          (unless n (agrees st v) v (cause_of 7 v st) (cause_of 4 (pair_at l 2) (v + 1)) rest refl refl
          (wrong-width b (inr e))
          (λ a. no-width-other b (inr e) a)
          (λ a. w.refused (pair_at l 2, v + 1) (s.s-record m (width_is b) count refl (inr (second_is (end_digit v) e, not-end-record b e a)))))

      not-header : kind ≡ 48 → ⊥
      unfolding srec_item typed header_line
      not-header e = not-kept format load text n l fault (skipped {a = st}) (as-srec format m st l ∙ rw (sound, e, lt-ltb 2 (pair_at l 2) three) refl)

      pub srec-typed : ((v : ℕ) → back.Width v → kind ≡ data_digit v → agrees st v ≡ true → v < pair_at l 2 → SpanSays format load ls n st l (told_of n rest))
          → TypeSays format load ls n st l (told_of n (or_else (srec_typed st l) rest))
      srec-typed span = either (eqb kind 49)
          (λ a. let e = eqb-true kind 49 a in rw a (data-typed back.two e (span 2 back.two e)))
          (λ a. either (eqb kind 51)
          (λ b. let e = eqb-true kind 51 b in rw (a, b) (data-typed back.four e (span 4 back.four e)))
          (λ b. either (eqb kind 55)
          (λ c. rw (a, b, c) (end-typed back.four (eqb-true kind 55 c)))
          (λ c. either (eqb kind 57)
          (λ d. rw (a, b, c, d) (end-typed back.two (eqb-true kind 57 d)))
          (λ d. rw (a, b, c, d) (w.refused kind (s.s-record m second not-header (eqb-false kind 49 a) (eqb-false kind 51 b) (eqb-false kind 55 c)
          (eqb-false kind 57 d)))))))
