-- What an Intel HEX line says, by the definitions and by the sentences: the same.
use Rattle.std.specs.Prelude.{◌≡◌, refl, ◌&&◌, eqb, drop}
use Rattle.std.proofs.Common.{sym, ap₂, ◌∙◌, subst, length-append, ext_get_or}
use Rattle.std.proofs.Math.Path.{ap}
use Rattle.std.proofs.Math.Bool.{true}
use mathlib.Core.List.{List, [], ◌∷◌, ◌++◌}
use Prim.Native.Nat.{ℕ, suc, ◌+◌, ◌*◌, ◌-◌, ◌<◌, ◌/◌, ◌%◌}
use native.Mathlib.Omega.{arith}
use borrow.Author.Tests.{eqb-true, eq-eqb, ne_eqb}
use Rattle.std.proofs.Math.ListN.{length, get_or, get_or-append}
use Rattle.prelude.specs.Laws.Bools.{either, clash, both}
use Rattle.bitvec.specs.Bits.{Bytes}
use Rattle.bitvec.specs.Lists.{list_of}
use Rattle.bitvec.specs.Laws.Lists.{length-list_of, get_d-list_of}
use Rattle.record_lines.specs.Digits.{all_digits, pair_at, bytes_at, bytes_text}
use Rattle.record_lines.specs.Items.{Item, gives, passes, ends, bad}
use Rattle.record_lines.specs.Laws.Spelled.{bytes-none, bytes-cons, bytes-append}
use Rattle.record_lines.specs.Sums.{sum_of}
use Rattle.record_lines.specs.Laws.Sums.{sum-append, list-one-more}
use Rattle.record_ihex_line.specs.Format.{record_bytes, check_of, count_of, field_of, type_of, good_line, by_type, hex_item}
use Rattle.record_ihex_line.specs.ReadBack.{whole_of, line_of}
use Rattle.says.specs.Records as r
use Rattle.says.specs.Records.{Case, Spells, Hex, total}
use Rattle.meets_records.specs.Laws.Spelled.{total-is, digits_of, length-of, pairs_of, spelled_by, same-list, spelled-written}

-- ---- a record that is written
zero-sum : (s : ℕ) → (s + (256 - s % 256) % 256) % 256 ≡ 0
zero-sum s = omega arith

-- "Bytes of a record, checksum included, sum to zero and wrap at 256."
pub hex-written : {k : Case} (type field : ℕ) (bytes : List ℕ) → type < 256 → field < 65536 → Bytes bytes → length bytes < 256
    → Hex k (line_of type field bytes) type field bytes
unfolding sum_of
hex-written type field bytes ht hf hb hn =
    let front = record_bytes type field bytes in
    let last = check_of front in
    record {
      digits = bytes_text (whole_of type field bytes);
      high = field / 256;
      low = field % 256;
      check = last;
      colon = refl;
      spelled = spelled-written (whole_of type field bytes)
          (bytes-cons (length bytes) (field / 256 ∷ field % 256 ∷ type ∷ (bytes ++ last ∷ [])) hn
          (bytes-cons (field / 256) (field % 256 ∷ type ∷ (bytes ++ last ∷ [])) (omega arith)
          (bytes-cons (field % 256) (type ∷ (bytes ++ last ∷ [])) (omega arith)
          (bytes-cons type (bytes ++ last ∷ []) ht
          (bytes-append bytes (last ∷ []) hb (bytes-cons last [] (omega arith) bytes-none))))));
      address = omega arith;
      sum =
          let split : sum_of (front ++ last ∷ []) ≡ sum_of front + last = sum-append front (last ∷ []) ∙ omega arith in
          ap (λ (k : ℕ). k % 256) (total-is (front ++ last ∷ []) ∙ split) ∙ zero-sum (sum_of front);
    }

-- ---- a line, from its fields
pair-next : (c : ℕ) (t : List ℕ) (j : ℕ) → pair_at (c ∷ t) (1 + 2 * j) ≡ pair_at t (2 * j)
pair-next c t j =
    let a : 1 + 2 * j ≡ suc (2 * j) = omega arith in
    let b : 1 + 2 * j + 1 ≡ suc (2 * j + 1) = omega arith in
    rw (b, a)

module _ (line : List ℕ) where
  abbrev count : ℕ
  count = count_of line

  abbrev parts : List ℕ
  parts = count ∷ pair_at line 3 ∷ pair_at line 5 ∷ type_of line ∷ bytes_at line 9 count ++ pair_at line (9 + 2 * count) ∷ []

  parts_are : bytes_at line 1 (5 + count) ≡ parts
  unfolding list_of
  parts_are =
      let n : 5 + count ≡ suc (suc (suc (suc (count + 1)))) = omega arith in
      let f : ℕ → ℕ = λ j. pair_at line (1 + 2 * j) in
      let g : ℕ → ℕ = λ j. pair_at line (9 + 2 * j) in
      ap (λ (k : ℕ). list_of k f) n
      ∙ ap (λ (l : List ℕ). count ∷ pair_at line 3 ∷ pair_at line 5 ∷ type_of line ∷ l)
      (same-list (count + 1) (λ j. f (suc (suc (suc (suc j))))) g (λ j k. ap (λ (x : ℕ). pair_at line x) (shift j)) ∙ list-one-more count g)
    where
      shift : (j : ℕ) → 1 + 2 * suc (suc (suc (suc j))) ≡ 9 + 2 * j
      shift j = omega arith

pub good-hex : (line : List ℕ) → good_line line ≡ true → Hex r.either line (type_of line) (field_of line) (bytes_at line 9 (count_of line))
unfolding good_line
good-hex [] e = absurd (clash e refl)
good-hex (c ∷ t) e =
    let line : List ℕ = c ∷ t in
    let n = count_of line in
    let three = both (eqb c 58 && eqb (length line) (11 + 2 * n) && all_digits t) (eqb (sum_of (bytes_at line 1 (5 + n)) % 256) 0) e in
    let two = both (eqb c 58 && eqb (length line) (11 + 2 * n)) (all_digits t) three.0 in
    let one = both (eqb c 58) (eqb (length line) (11 + 2 * n)) two.0 in
    let long : length line ≡ 11 + 2 * n = eqb-true (length line) (11 + 2 * n) one.1 in
    let spelled = spelled_by (5 + n) t (λ j. pair_at line (1 + 2 * j)) two.1 (omega arith) (λ j k. pair-next c t j) in
    let few : length (bytes_at line 9 n) ≡ n = length-list_of n (λ j. pair_at line (9 + 2 * j)) in
    let all : bytes_at line 1 (5 + n) ≡ length (bytes_at line 9 n) ∷ pair_at line 3 ∷ pair_at line 5 ∷ type_of line ∷ bytes_at line 9 n ++ pair_at line
    (9 + 2 * n) ∷ [] =
    parts_are line ∙ ap (λ (k : ℕ). k ∷ pair_at line 3 ∷ pair_at line 5 ∷ type_of line ∷ bytes_at line 9 n ++ pair_at line (9 + 2 * n) ∷ []) (sym few) in
    record {
      digits = t;
      high = pair_at line 3;
      low = pair_at line 5;
      check = pair_at line (9 + 2 * n);
      colon = ap (λ (x : ℕ). x ∷ t) (eqb-true c 58 one.0);
      spelled = subst (Spells r.either t) all spelled;
      address = refl;
      sum = ap (λ (l : List ℕ). total l % 256) (sym all) ∙ ap (λ (k : ℕ). k % 256) (total-is (bytes_at line 1 (5 + n)))
          ∙ eqb-true (sum_of (bytes_at line 1 (5 + n)) % 256) 0 three.1;
    }

-- ---- and its fields, from a line
module _ {line b : List ℕ} {t f : ℕ} (x : Hex r.either line t f b) where
  abbrev bs : List ℕ
  bs = length b ∷ x.high ∷ x.low ∷ t ∷ b ++ x.check ∷ []

  size : length bs ≡ 5 + length b
  size = omega (arith, length-append b (x.check ∷ []))

  pair-back : (j : ℕ) → j < 5 + length b → pair_at line (1 + 2 * j) ≡ get_or bs j 0
  pair-back j h =
      ap (λ (l : List ℕ). pair_at l (1 + 2 * j)) x.colon ∙ pair-next 58 x.digits j ∙ pairs_of x.spelled j (omega (arith, size))

  count-back : count_of line ≡ length b
  count-back = pair-back 0 (omega arith)

  pub type-back : type_of line ≡ t
  type-back = pair-back 3 (omega arith)

  pub field_back : field_of line ≡ f
  field_back = ap₂ (λ (u v : ℕ). 256 * u + v) (pair-back 1 (omega arith)) (pair-back 2 (omega arith)) ∙ sym x.address

  data-back : (j : ℕ) → j < length b → pair_at line (9 + 2 * j) ≡ get_or b j 0
  data-back j h =
      let a : 9 + 2 * j ≡ 1 + 2 * suc (suc (suc (suc j))) = omega arith in
      ap (λ (k : ℕ). pair_at line k) a ∙ pair-back (suc (suc (suc (suc j)))) (omega arith) ∙ get_or-append b (x.check ∷ []) 0 j h

  pub bytes_back : bytes_at line 9 (count_of line) ≡ b
  bytes_back =
      let g : ℕ → ℕ = λ j. pair_at line (9 + 2 * j) in
      ap (bytes_at line 9) count-back
      ∙ ext_get_or 0 (list_of (length b) g) b (length-list_of (length b) g) (λ j h.
      let k : j < length b = omega (arith, length-list_of (length b) g) in
      get_d-list_of (length b) g j k ∙ data-back j k)

  whole_back : bytes_at line 1 (5 + count_of line) ≡ bs
  whole_back =
      let g : ℕ → ℕ = λ j. pair_at line (1 + 2 * j) in
      ap (λ (n : ℕ). bytes_at line 1 (5 + n)) count-back
      ∙ ext_get_or 0 (list_of (5 + length b) g) bs (length-list_of (5 + length b) g ∙ sym size) (λ j h.
      let k : j < 5 + length b = omega (arith, length-list_of (5 + length b) g) in
      get_d-list_of (5 + length b) g j k ∙ pair-back j k)

  pub hex-good : good_line line ≡ true
  unfolding good_line
  hex-good =
      let long : length line ≡ 11 + 2 * count_of line =
      ap (λ (l : List ℕ). length l) x.colon ∙ omega (arith, length-of x.spelled, size, count-back) in
      let colon : get_or line 0 0 ≡ 58 = ap (λ (l : List ℕ). get_or l 0 0) x.colon in
      let digits : all_digits (drop 1 line) ≡ true = ap (λ (l : List ℕ). all_digits (drop 1 l)) x.colon ∙ digits_of x.spelled in
      let sum : sum_of (bytes_at line 1 (5 + count_of line)) % 256 ≡ 0 = ap (λ (l : List ℕ). sum_of l % 256) whole_back
      ∙ ap (λ (k : ℕ). k % 256) (sym (total-is bs)) ∙ x.sum in
      rw (
        eq-eqb (get_or line 0 0) 58 colon,
        eq-eqb (length line) (11 + 2 * count_of line) long,
        digits,
        eq-eqb (sum_of (bytes_at line 1 (5 + count_of line)) % 256) 0 sum,
      )

pub item-data : (u : ℕ) {line b : List ℕ} {f : ℕ} → Hex r.either line 0 f b → hex_item u line ≡ gives (65536 * u + f) b u
unfolding hex_item by_type
item-data u {line} x =
    rw (hex-good x, eq-eqb (type_of line) 0 (type-back x)) (ap₂ (λ (k : ℕ) (l : List ℕ). gives (65536 * u + k) l u) (field_back x) (bytes_back x))

pub item-end : (u : ℕ) {line : List ℕ} → Hex r.either line 1 0 [] → hex_item u line ≡ ends
unfolding hex_item by_type
item-end u {line} x =
    let type = type-back x in
    rw (
      hex-good x,
      ne_eqb (type_of line) 0 (λ e. omega arith),
      eq-eqb (field_of line) 0 (field_back x),
      eq-eqb (type_of line) 1 type,
      eq-eqb (count_of line) 0 (count-back x),
    )

pub item-upper : (u : ℕ) {line : List ℕ} {a b : ℕ} → Hex r.either line 4 0 (a ∷ b ∷ []) → hex_item u line ≡ passes (256 * a + b)
unfolding hex_item by_type
item-upper u {line} x =
    let type = type-back x in
    rw (
      hex-good x,
      ne_eqb (type_of line) 0 (λ e. omega arith),
      eq-eqb (field_of line) 0 (field_back x),
      ne_eqb (type_of line) 1 (λ e. omega arith),
      eq-eqb (type_of line) 4 type,
      eq-eqb (count_of line) 2 (count-back x),
    )
    (ap₂ (λ (k m : ℕ). passes (256 * k + m)) (data-back x 0 (omega arith)) (data-back x 1 (omega arith)))

-- What a line says, by its fields.
pub data HexSaid (u : ℕ) (line : List ℕ) : Item → Type 0 where
  gave : {f : ℕ} {b : List ℕ} → Hex r.either line 0 f b → HexSaid u line (gives (65536 * u + f) b u)
  moved : {a b : ℕ} → Hex r.either line 4 0 (a ∷ b ∷ []) → HexSaid u line (passes (256 * a + b))
  closed : Hex r.either line 1 0 [] → HexSaid u line ends
  none : HexSaid u line bad

of-type : {line b : List ℕ} {t f : ℕ} (t' f' : ℕ) (b' : List ℕ) → t ≡ t' → f ≡ f' → b ≡ b' → Hex r.either line t f b → Hex r.either line t' f' b'
of-type {line} {b} {t} {f} t' f' b' e g h x =
    subst (λ (l : List ℕ). Hex r.either line t' f' l) h (subst (λ (k : ℕ). Hex r.either line t' k b) g (subst (λ (k : ℕ). Hex r.either line k f b) e x))

pub said : (u : ℕ) (line : List ℕ) → HexSaid u line (hex_item u line)
unfolding hex_item by_type list_of
said u line = either (good_line line)
    (λ good.
    let x = good-hex line good in
    either (eqb (type_of line) 0)
    (λ a. rw (good, a) (gave (of-type 0 (field_of line) (bytes_at line 9 (count_of line)) (eqb-true (type_of line) 0 a) refl refl x)))
    (λ a. either (eqb (field_of line) 0)
    (λ b. either (eqb (type_of line) 1)
    (λ c. either (eqb (count_of line) 0)
    (λ d. rw (good, a, b, c, d) (closed (of-type 1 0 [] (eqb-true (type_of line) 1 c) (eqb-true (field_of line) 0 b)
    (ap (λ (n : ℕ). bytes_at line 9 n) (eqb-true (count_of line) 0 d)) x)))
    (λ d. rw (good, a, b, c, d) none))
    (λ c. either (eqb (type_of line) 4)
    (λ d. either (eqb (count_of line) 2)
    (λ e. rw (good, a, b, c, d, e) (moved (of-type 4 0 (pair_at line 9 ∷ pair_at line 11 ∷ []) (eqb-true (type_of line) 4 d) (eqb-true (field_of line) 0 b)
    (ap (λ (n : ℕ). bytes_at line 9 n) (eqb-true (count_of line) 2 e)) x)))
    (λ e. rw (good, a, b, c, d, e) none))
    (λ d. rw (good, a, b, c, d) none)))
    (λ b. rw (good, a, b) none)))
    (λ f. rw f none)
