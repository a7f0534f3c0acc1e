-- What an S-record says, by the definitions and by the sentences: the same, once over both widths.
use Rattle.std.specs.Prelude.{◌≡◌, refl, ◌&&◌, ◌⊎◌, leb, get_or, drop}
use Rattle.std.proofs.Math.Path.{sym, ap, ap₂}
use Rattle.std.proofs.Common.{◌∙◌, subst, inl, inr, length-append, ext_get_or}
use Rattle.std.proofs.Math.Bool.{true}
use mathlib.Core.List.{List, [], ◌∷◌, ◌++◌, append_assoc}
use Prim.Native.Nat.{ℕ, suc, ◌+◌, ◌*◌, ◌-◌, ◌≤◌, ◌<◌, ◌/◌, ◌%◌, ◌^◌}
use native.Mathlib.Omega.{arith}
use borrow.Author.Tests.{ltb-true, lt-ltb, leb-true, le-leb, eqb-true, eq-eqb}
use Rattle.std.proofs.Math.Dec.{ltb, eqb}
use Rattle.std.proofs.Math.ListN.{length}
use Rattle.prelude.specs.Laws.Bools.{either, clash, both}
use Rattle.bitvec.specs.Bits.{Bytes}
use Rattle.bitvec.specs.Lists.{list_of}
use Rattle.bitvec.specs.Laws.Lists.{length-list_of, get_d-list_of}
use Rattle.record_lines.specs.Digits.{all_digits, pair_at, bytes_at, bytes_text}
use Rattle.record_lines.specs.Items.{Item, gives, passes, ends, bad}
use Rattle.record_lines.specs.Laws.Spelled.{bytes-none, bytes-cons, bytes-append}
use Rattle.record_lines.specs.Sums.{sum_of}
use Rattle.record_lines.specs.Laws.Sums.{list-one-more}
use Rattle.record_srec_line.specs.Srec.{address_bytes, body_of, checksum_of, line_text, data_digit, end_digit, is_s, number_from, count_of, address_of, data_of, is_sound}
use Rattle.record_srec_line.specs.Srec.{agrees, fits, data_line, end_line, header_line, typed, srec_item}
use Rattle.record_srec_line.specs.ReadBack as back
use Rattle.record_srec_line.specs.Laws.ReadBack.{address-bytes}
use Rattle.record_srec_line.specs.Theorems.ReadBack.{address-back}
use Rattle.says.specs.Records as r
use Rattle.says.specs.Records.{Case, Spells, Number, Srec, Width, total}
use Rattle.meets_records.specs.Laws.One.{total-append, below_last, front, apart, number-length}
use Rattle.meets_records.specs.Laws.Spelled.{total-is, digits_of, length-of, pairs_of, spelled_by, same-list, list-split, spelled-written}

-- The width in force by its two values, and by the sentences' table.
pub width_is : {w : ℕ} → back.Width w → Width (data_digit w) (end_digit w) w (256 ^ w)
width_is back.two = r.two refl refl refl refl
width_is back.four = r.four refl refl refl refl

pub is-width : {d e w top : ℕ} → Width d e w top → back.Width w × (d ≡ data_digit w) × (e ≡ end_digit w) × (top ≡ 256 ^ w)
is-width (r.two a b c f) = rw c (back.two, a, b, f)
is-width (r.four a b c f) = rw c (back.four, a, b, f)

-- ---- numbers and sums
two_bytes : (a b : ℕ) → (0 * 256 + a) * 256 + b ≡ 256 * a + b
two_bytes a b = omega arith

four_bytes : (a b c d : ℕ) → (((0 * 256 + a) * 256 + b) * 256 + c) * 256 + d ≡ 16777216 * a + 65536 * b + 256 * c + d
four_bytes a b c d = omega arith

number : {w : ℕ} → back.Width w → (line : List ℕ) → Number w (bytes_at line 4 w) (address_of w line)
unfolding list_of number_from
number back.two line = r.two refl (two_bytes (pair_at line 4) (pair_at line 6))
number back.four line = r.four refl (four_bytes (pair_at line 4) (pair_at line 6) (pair_at line 8) (pair_at line 10))

number-from : {w n : ℕ} {f : List ℕ} → Number w f n → number_from 0 f ≡ n
unfolding number_from
number-from (r.two {a} {b} w e) = two_bytes a b ∙ sym e
number-from (r.four {a} {b} {c} {d} w e) = four_bytes a b c d ∙ sym e

total-last : (l : List ℕ) (b : ℕ) → total (l ++ b ∷ []) ≡ total l + b
unfolding total
total-last l b = total-append l (b ∷ []) ∙ omega arith

complement : (s c : ℕ) → c < 256 → (s + c) % 256 ≡ 255 → c ≡ 255 - s % 256
complement s c h e = omega arith

sums-up : (s : ℕ) → (s + (255 - s % 256)) % 256 ≡ 255
sums-up s = omega arith

letter : (c : ℕ) → is_s c ≡ true → (c ≡ 83) ⊎ ((r.either ≡ r.either) × (c ≡ 115))
letter c e = either (eqb c 83) (λ t. inl (eqb-true c 83 t)) (λ f. inr (refl, eqb-true c 115 (rw f at e)))

letter-back : {c : ℕ} → (c ≡ 83) ⊎ ((r.either ≡ r.either) × (c ≡ 115)) → is_s c ≡ true
letter-back (inl e) = rw e
letter-back (inr (k, e)) = rw e

-- ---- a line, from its fields
pair-next : (c k : ℕ) (t : List ℕ) (j : ℕ) → pair_at (c ∷ k ∷ t) (2 + 2 * j) ≡ pair_at t (2 * j)
pair-next c k t j =
    let a : 2 + 2 * j ≡ suc (suc (2 * j)) = omega arith in
    let b : 2 + 2 * j + 1 ≡ suc (suc (2 * j + 1)) = omega arith in
    rw (b, a)

module _ (line : List ℕ) (w m : ℕ) where
  abbrev parts : List ℕ
  parts = count_of line ∷ bytes_at line 4 w ++ (bytes_at line (4 + 2 * w) m ++ pair_at line (4 + 2 * w + 2 * m) ∷ [])

  parts_are : bytes_at line 2 (w + m + 1 + 1) ≡ parts
  unfolding list_of
  parts_are =
      let n : w + m + 1 + 1 ≡ suc (w + (m + 1)) = omega arith in
      let f : ℕ → ℕ = λ j. pair_at line (2 + 2 * j) in
      let g : ℕ → ℕ = λ j. pair_at line (4 + 2 * j) in
      let h : ℕ → ℕ = λ j. pair_at line (4 + 2 * w + 2 * j) in
      ap (λ (k : ℕ). list_of k f) n
      ∙ ap (λ (l : List ℕ). count_of line ∷ l)
      (list-split w (m + 1) (λ j. f (suc j))
      ∙ ap₂ (λ (a b : List ℕ). a ++ b)
      (same-list w (λ j. f (suc j)) g (λ j k. ap (λ (x : ℕ). pair_at line x) (near j)))
      (same-list (m + 1) (λ j. f (suc (w + j))) h (λ j k. ap (λ (x : ℕ). pair_at line x) (far j)) ∙ list-one-more m h))
    where
      near : (j : ℕ) → 2 + 2 * suc j ≡ 4 + 2 * j
      near j = omega arith

      far : (j : ℕ) → 2 + 2 * suc (w + j) ≡ 4 + 2 * w + 2 * j
      far j = omega arith

pub good-srec : {w : ℕ} → back.Width w → (line : List ℕ) → is_sound line ≡ true → w < count_of line
    → Srec r.either line (get_or line 1 0) w (address_of w line) (data_of w line)
unfolding is_sound
good-srec v [] e h = absurd (clash e refl)
good-srec v (c ∷ []) e h = absurd (clash e refl)
good-srec {w} v (c ∷ k ∷ t) e h =
    let line : List ℕ = c ∷ k ∷ t in
    let n = count_of line in
    let m = n - w - 1 in
    let long = eqb (length line) (4 + 2 * n) in
    let five = both (leb 4 (length line) && is_s c && all_digits t && long) (eqb (sum_of (bytes_at line 2 (n + 1)) % 256) 255) e in
    let four = both (leb 4 (length line) && is_s c && all_digits t) long five.0 in
    let three = both (leb 4 (length line) && is_s c) (all_digits t) four.0 in
    let two = both (leb 4 (length line)) (is_s c) three.0 in
    let size : length line ≡ 4 + 2 * n = eqb-true (length line) (4 + 2 * n) four.1 in
    let split : n + 1 ≡ w + m + 1 + 1 = omega arith in
    let all : bytes_at line 2 (n + 1) ≡ parts line w m = ap (bytes_at line 2) split ∙ parts_are line w m in
    let pairs = spelled_by (n + 1) t (λ j. pair_at line (2 + 2 * j)) three.1 (omega arith) (λ j x. pair-next c k t j) in
    let text : Spells r.either t (parts line w m) = subst (Spells r.either t) all pairs in
    let few : length (data_of w line) ≡ m = length-list_of m (λ j. pair_at line (4 + 2 * w + 2 * j)) in
    let body : List ℕ = n ∷ bytes_at line 4 w ++ data_of w line in
    let last = pair_at line (4 + 2 * w + 2 * m) in
    let joined : body ++ last ∷ [] ≡ parts line w m = append_assoc (n ∷ bytes_at line 4 w) (data_of w line) (last ∷ []) in
    record {
      s = c;
      digits = t;
      count = n;
      field = bytes_at line 4 w;
      check = last;
      front = refl;
      letter = letter c two.1;
      spelled = text;
      counts = omega (arith, few);
      number = number v line;
      sum =
          complement (total body) last (below_last body last (subst (Spells r.either t) (sym joined) text))
          (ap (λ (x : ℕ). x % 256) (sym (total-last body last)) ∙ ap (λ (l : List ℕ). total l % 256) (joined ∙ sym all)
          ∙ ap (λ (x : ℕ). x % 256) (total-is (bytes_at line 2 (n + 1))) ∙ eqb-true (sum_of (bytes_at line 2 (n + 1)) % 256) 255 five.1);
    }

-- ---- and its fields, from a line
module _ {line b : List ℕ} {kind w a : ℕ} (x : Srec r.either line kind w a b) where
  abbrev bs : List ℕ
  bs = x.count ∷ x.field ++ (b ++ x.check ∷ [])

  size : length bs ≡ w + length b + 1 + 1
  size = omega
      (arith, length-append (x.count ∷ x.field) (b ++ x.check ∷ []), length-append b (x.check ∷ []), number-length x.number)

  pair-back : (j : ℕ) → j < w + length b + 1 + 1 → pair_at line (2 + 2 * j) ≡ get_or bs j 0
  pair-back j h =
      ap (λ (l : List ℕ). pair_at l (2 + 2 * j)) x.front ∙ pair-next x.s kind x.digits j ∙ pairs_of x.spelled j (omega (arith, size))

  pub count-back : count_of line ≡ w + length b + 1
  count-back = pair-back 0 (omega arith) ∙ x.counts

  whole_back : bytes_at line 2 (count_of line + 1) ≡ bs
  whole_back =
      let g : ℕ → ℕ = λ j. pair_at line (2 + 2 * j) in
      let n = w + length b + 1 + 1 in
      ap (λ (n : ℕ). bytes_at line 2 (n + 1)) count-back
      ∙ ext_get_or 0 (list_of n g) bs (length-list_of n g ∙ sym size) (λ j h.
      let k : j < n = omega (arith, length-list_of n g) in
      get_d-list_of n g j k ∙ pair-back j k)

  pub kind-back : get_or line 1 0 ≡ kind
  kind-back = ap (λ (l : List ℕ). get_or l 1 0) x.front

  pub srec-sound : is_sound line ≡ true
  unfolding is_sound
  srec-sound =
      let body : List ℕ = x.count ∷ x.field ++ b in
      let long : length line ≡ 4 + 2 * count_of line = ap (λ (l : List ℕ). length l) x.front ∙ omega (arith, length-of x.spelled, size, count-back) in
      let first : is_s (get_or line 0 0) ≡ true = ap (λ (l : List ℕ). is_s (get_or l 0 0)) x.front ∙ letter-back x.letter in
      let digits : all_digits (drop 2 line) ≡ true = ap (λ (l : List ℕ). all_digits (drop 2 l)) x.front ∙ digits_of x.spelled in
      let joined : body ++ x.check ∷ [] ≡ bs = append_assoc (x.count ∷ x.field) b (x.check ∷ []) in
      let sum : sum_of (bytes_at line 2 (count_of line + 1)) % 256 ≡ 255 =
      ap (λ (l : List ℕ). sum_of l % 256) (whole_back ∙ sym joined)
      ∙ ap (λ (k : ℕ). k % 256) (sym (total-is (body ++ x.check ∷ [])) ∙ total-last body x.check)
      ∙ ap (λ (k : ℕ). (total body + k) % 256) x.sum ∙ sums-up (total body) in
      rw (
        le-leb 4 (length line) (omega arith),
        first,
        digits,
        eq-eqb (length line) (4 + 2 * count_of line) long,
        eq-eqb (sum_of (bytes_at line 2 (count_of line + 1)) % 256) 255 sum,
      )

  data-long : count_of line - w - 1 ≡ length b
  data-long = omega (arith, count-back)

  fields_back : (bytes_at line 4 w ≡ x.field) × (data_of w line ≡ b)
  fields_back =
      let m = count_of line - w - 1 in
      let split : w + m + 1 + 1 ≡ count_of line + 1 = omega (arith, count-back) in
      let same : parts line w m ≡ bs = sym (parts_are line w m) ∙ ap (bytes_at line 2) split ∙ whole_back in
      let last = pair_at line (4 + 2 * w + 2 * m) in
      let one = front (bytes_at line 4 w) x.field (data_of w line ++ last ∷ []) (b ++ x.check ∷ [])
      (length-list_of w (λ j. pair_at line (4 + 2 * j)) ∙ sym (number-length x.number)) (apart same).1 in
      let two = front (data_of w line) b (last ∷ []) (x.check ∷ []) (length-list_of m (λ j. pair_at line (4 + 2 * w + 2 * j)) ∙ data-long) one.1 in
      (one.0, two.0)

  pub address_is : address_of w line ≡ a
  address_is = ap (number_from 0) fields_back.0 ∙ number-from x.number

  pub data_is : data_of w line ≡ b
  data_is = fields_back.1

  -- what the line's item is, by its kind
  data-line : (st : ℕ) → agrees st w ≡ true → a + length b ≤ 256 ^ w → data_line w st line ≡ gives a b w
  unfolding data_line
  data-line st own fit =
      let room : address_of w line + (count_of line - w - 1) ≤ 256 ^ w = omega (arith, address_is, data-long) in
      rw (own, lt-ltb w (count_of line) (omega (arith, count-back)), le-leb (address_of w line + (count_of line - w - 1)) (256 ^ w) room)
      (ap₂ (λ (n : ℕ) (l : List ℕ). gives n l w) address_is data_is)

  end_line_lem : (st : ℕ) → agrees st w ≡ true → length b ≡ 0 → end_line w st line ≡ ends
  unfolding end_line
  end_line_lem st own none = rw (own, eq-eqb (count_of line) (w + 1) (omega (arith, count-back)))

pub item-header : (st : ℕ) {line b : List ℕ} {a : ℕ} → Srec r.either line 48 2 a b → srec_item st line ≡ passes st
unfolding srec_item typed header_line
item-header st {line} x = rw (srec-sound x, kind-back x, lt-ltb 2 (count_of line) (omega (arith, count-back x)))

pub item-data : {w : ℕ} → back.Width w → (st : ℕ) {line b : List ℕ} {a : ℕ} → Srec r.either line (data_digit w) w a b → agrees st w ≡ true
    → a + length b ≤ 256 ^ w → srec_item st line ≡ gives a b w
unfolding srec_item typed
item-data back.two st x own fit = rw (srec-sound x, kind-back x) (data-line x st own fit)
item-data back.four st x own fit = rw (srec-sound x, kind-back x) (data-line x st own fit)

pub item-end : {w : ℕ} → back.Width w → (st : ℕ) {line : List ℕ} {a : ℕ} → Srec r.either line (end_digit w) w a [] → agrees st w ≡ true
    → srec_item st line ≡ ends
unfolding srec_item typed
item-end back.two st x own = rw (srec-sound x, kind-back x) (end_line_lem x st own refl)
item-end back.four st x own = rw (srec-sound x, kind-back x) (end_line_lem x st own refl)

-- ---- what a line says, by its fields
pub data SrecSaid (st : ℕ) (line : List ℕ) : Item → Type 0 where
  gave : {w a : ℕ} {b : List ℕ} → back.Width w → agrees st w ≡ true → Srec r.either line (data_digit w) w a b → a + length b ≤ 256 ^ w
      → SrecSaid st line (gives a b w)
  skipped : {a : ℕ} {b : List ℕ} → Srec r.either line 48 2 a b → SrecSaid st line (passes st)
  closed : {w a : ℕ} → back.Width w → agrees st w ≡ true → Srec r.either line (end_digit w) w a [] → SrecSaid st line ends
  none : SrecSaid st line bad

module _ (st : ℕ) (line : List ℕ) (sounds : is_sound line ≡ true) where
  data-said : {w : ℕ} → back.Width w → get_or line 1 0 ≡ data_digit w → SrecSaid st line (data_line w st line)
  unfolding data_line
  data-said {w} v kind = either (agrees st w && ltb w (count_of line) && fits w line)
      (λ t.
      let two = both (agrees st w && ltb w (count_of line)) (fits w line) t in
      let one = both (agrees st w) (ltb w (count_of line)) two.0 in
      let x = good-srec v line sounds (ltb-true w (count_of line) one.1) in
      let few : length (data_of w line) ≡ count_of line - w - 1 = length-list_of (count_of line - w - 1) (λ j. pair_at line (4 + 2 * w + 2 * j)) in
      let room = leb-true (address_of w line + (count_of line - w - 1)) (256 ^ w) two.1 in
      rw t (gave v one.0 (subst (λ (k : ℕ). Srec r.either line k w (address_of w line) (data_of w line)) kind x) (omega arith)))
      (λ f. rw f none)

  end-said : {w : ℕ} → back.Width w → get_or line 1 0 ≡ end_digit w → SrecSaid st line (end_line w st line)
  unfolding end_line list_of
  end-said {w} v kind = either (agrees st w && eqb (count_of line) (w + 1))
      (λ t.
      let one = both (agrees st w) (eqb (count_of line) (w + 1)) t in
      let few : count_of line ≡ w + 1 = eqb-true (count_of line) (w + 1) one.1 in
      let x = good-srec v line sounds (omega arith) in
      let left : count_of line - w - 1 ≡ 0 = omega arith in
      let empty : data_of w line ≡ [] = ap (λ (n : ℕ). bytes_at line (4 + 2 * w) n) left in
      rw t (closed v one.0 (subst (λ (k : ℕ). Srec r.either line k w (address_of w line) []) kind
      (subst (λ (l : List ℕ). Srec r.either line (get_or line 1 0) w (address_of w line) l) empty x))))
      (λ f. rw f none)

  header-said : get_or line 1 0 ≡ 48 → SrecSaid st line (header_line st line)
  unfolding header_line
  header-said kind = either (ltb 2 (count_of line))
      (λ t.
      let x = good-srec back.two line sounds (ltb-true 2 (count_of line) t) in
      rw t (skipped (subst (λ (k : ℕ). Srec r.either line k 2 (address_of 2 line) (data_of 2 line)) kind x)))
      (λ f. rw f none)

pub said : (st : ℕ) (line : List ℕ) → SrecSaid st line (srec_item st line)
unfolding srec_item typed
said st line = either (is_sound line)
    (λ t.
    let k = get_or line 1 0 in
    either (eqb k 48)
    (λ a. rw (t, a) (header-said st line t (eqb-true k 48 a)))
    (λ a. either (eqb k 49)
    (λ b. rw (t, a, b) (data-said st line t back.two (eqb-true k 49 b)))
    (λ b. either (eqb k 51)
    (λ c. rw (t, a, b, c) (data-said st line t back.four (eqb-true k 51 c)))
    (λ c. either (eqb k 55)
    (λ d. rw (t, a, b, c, d) (end-said st line t back.four (eqb-true k 55 d)))
    (λ d. either (eqb k 57)
    (λ e. rw (t, a, b, c, d, e) (end-said st line t back.two (eqb-true k 57 e)))
    (λ e. rw (t, a, b, c, d, e) none))))))
    (λ f. rw f none)

-- ---- a record that is written
number-written : {w : ℕ} → back.Width w → (a : ℕ) → a < 256 ^ w → Number w (address_bytes w a) a
unfolding address_bytes number_from
number-written back.two a h = r.two refl (sym (address-back 2 a h) ∙ two_bytes (a / 256 ^ 1 % 256) (a / 256 ^ 0 % 256))
number-written back.four a h =
    r.four refl (sym (address-back 4 a h) ∙ four_bytes (a / 256 ^ 3 % 256) (a / 256 ^ 2 % 256) (a / 256 ^ 1 % 256) (a / 256 ^ 0 % 256))

-- "The checksum is the ones' complement of the low byte of the sum of count, address and data bytes."
pub srec-written : {k : Case} {w : ℕ} → back.Width w → (kind a : ℕ) (bytes : List ℕ) → Bytes bytes → w + length bytes + 1 < 256 → a < 256 ^ w
    → Srec k (line_text kind w a bytes) kind w a bytes
unfolding line_text
srec-written {k} {w} v kind a bytes good few low =
    let body = body_of w a bytes in
    let last = checksum_of body in
    let joined : body ++ last ∷ [] ≡ (w + length bytes + 1) ∷ address_bytes w a ++ (bytes ++ last ∷ []) =
    append_assoc ((w + length bytes + 1) ∷ address_bytes w a) bytes (last ∷ []) in
    let all : Bytes (body ++ last ∷ []) =
    bytes-append body (last ∷ [])
    (bytes-cons (w + length bytes + 1) (address_bytes w a ++ bytes) few (bytes-append (address_bytes w a) bytes (address-bytes w a) good))
    (bytes-cons last [] (omega arith) bytes-none) in
    record {
      s = 83;
      digits = bytes_text (body ++ last ∷ []);
      count = w + length bytes + 1;
      field = address_bytes w a;
      check = last;
      front = refl;
      letter = inl refl;
      spelled = subst (Spells k (bytes_text (body ++ last ∷ []))) joined (spelled-written (body ++ last ∷ []) all);
      counts = refl;
      number = number-written v a low;
      sum = ap (λ (n : ℕ). 255 - n % 256) (sym (total-is body));
    }
