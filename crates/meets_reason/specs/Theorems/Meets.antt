-- What `dk_record_reason` promises says its sentences, for Intel HEX and for S-records.
use Rattle.std.specs.Prelude.{◌≡◌, Bool, true, false, List, [], ◌∷◌, ◌⊎◌, ℕ, zero, suc, ◌+◌, ◌*◌, ◌-◌, ◌≤◌, ◌<◌, ◌%◌, ◌^◌, ltb, drop}
use Rattle.std.proofs.Math.Path.{refl, ap, subst}
use Rattle.std.proofs.Common.{sym, ◌∙◌, inl, inr, ⊎_elim, length-drop}
use Rattle.std.proofs.Math.Decide.{dec_lt}
use native.Mathlib.Omega.{arith}
use borrow.Author.Tests.{ltb-true, ltb-false, eqb-true, eqb-false, eq-eqb, ne_eqb, le-leb, lt-leb}
use Rattle.std.proofs.Math.Dec.{eqb}
use Rattle.std.proofs.Math.ListN.{length, get_or}
use Rattle.prelude.specs.Laws.Bools.{either, clash, unlike}
use Rattle.prelude.specs.Laws.Pick.{paired}
use Rattle.prelude.specs.Pick.{pick}
use Rattle.bitvec.specs.Lists.{list_of}
use Rattle.bitvec.specs.Laws.Lists.{length-list_of}
use Rattle.record_lines.specs.Digits.{all_digits, pair_at, bytes_at}
use Rattle.record_lines.specs.Items.{Item, ends, bad}
use Rattle.record_lines.specs.Lines.{lines_of}
use Rattle.record_lines.specs.Theorems.Lines.{lines-first}
use Rattle.record_lines.specs.Pieces.{Piece, piece}
use Rattle.record_lines.specs.Sums.{sum_of}
use Rattle.record_ihex_line.specs.Format.{good_line, type_of, field_of, count_of}
use Rattle.record_srec_line.specs.Srec.{is_s, is_sound, address_of, data_of, data_digit, agrees, number_from}
use Rattle.record_srec_line.specs.ReadBack as back
use Rattle.record_scan.specs.Reading.{format_by, Read, sound, faulty, read_text}
use Rattle.record_scan.specs.Trail.{trail}
use Rattle.record_reason.specs.Spelling.{cause_of, or_else, leading, wanted_of, sum_cause, spelled, hex_typed, srec_typed, own_cause}
use Rattle.record_reason.specs.Spelling.{start_by, many_by, top_by}
use Rattle.record_reason.specs.Reasons.{item_of, is_end, ends_before, span_cause, line_cause, cause_at, why_of}
use Rattle.record_reason.specs.declared.Cause.{Cause}
use Rattle.c_answers.specs.Parts.{reason_told}
use Rattle.c_answers.specs.declared.DkReason.{DkReason}
use Rattle.c_model.specs.Reasons.{kind_of, ReasonTold}
use Rattle.says.specs.Records as r
use Rattle.says.specs.Records.{Hex, Srec}
use Rattle.meets_records.specs.Laws.Spelled.{lines-meet}
use Rattle.meets_records.specs.Laws.HexLine.{good-hex}
use Rattle.meets_records.specs.Laws.SrecLine.{width_is, good-srec}
use Rattle.says.specs.Reason as s
use Rattle.says.specs.Reason.{DataLine, EndRecord, Ended, FaultLine, DkReasonSays}
use Rattle.meets_reason.specs.Laws.One.{inside, count-one}
use Rattle.meets_reason.specs.Laws.Items.{own-width, said, end-item}
use Rattle.meets_reason.specs.Laws.Items as items
use Rattle.meets_reason.specs.Laws.Trails.{lines, lines_from, line-is, line_at, drop_at, at_drop, drop-some, drop-long, drop-line, empty-drop, not-empty}
use Rattle.meets_reason.specs.Laws.Stops as stops
use Rattle.meets_reason.specs.Laws.Stops.{Goes, goes-no-end, Fault, fault-at, fault-within, Stands, stands-before, stands_good}
use Rattle.meets_reason.specs.Laws.NoReason.{kept-none, given-none}
use Rattle.meets_reason.specs.Laws.Spelling.{no_digit, all_digits_lem, count-is, long-is, long-right, long-by, sum-wrong, sum-right}
use Rattle.meets_reason.specs.Laws.Formats.{same_read, same-why}
use Rattle.meets_reason.specs.Laws.Chain.{told_of, or_assoc, unless, where-so}
use Rattle.meets_reason.specs.Laws.Span.{SpanSays, AtFault, broken, unfit, span-says}
use Rattle.meets_reason.specs.Laws.Typed.{TypeSays, Starts, LineChain, LineSays, lined, hex-typed, srec-typed}
use Rattle.meets_reason.specs.Laws.Typed as typed

-- ---- how a line is spelled, once over both formats
module _ (format load : ℕ) (ls : List (List ℕ)) (n st capital small from body least target bare : ℕ) (l : List ℕ) (sizes : bare ≡ from + 2 * (body + 1))
    (is : ((format ≡ 0) × (target ≡ 0)) ⊎ ((format ≡ 0 → ⊥) × (target ≡ 255))) (begun : Bool) (starts : begun ≡ true → Starts capital small l)
    (never : begun ≡ false → Starts capital small l → ⊥) (rest : Cause) where
  abbrev wanted : ℕ
  wanted = wanted_of from body least l

  abbrev digits : Bool
  digits = all_digits (drop from l)

  abbrev odd : ℕ
  odd = from + leading (drop from l)

  abbrev sums : Bool
  sums = eqb (sum_of (bytes_at l from (body + pair_at l from + 1)) % 256) target

  module _ (on : begun ≡ true → digits ≡ true → length l ≡ wanted → least ≤ pair_at l from → sums ≡ true → TypeSays format load ls n st l (told_of n rest)) where
    spelled-says : LineChain format load ls n st capital small from bare least l (told_of n (or_else (spelled begun from body least target l) rest))
    spelled-says =
        unless n begun tt (cause_of 1 0 0) _ rest refl refl (λ b. never b) (λ b x h. h (starts b))
        (λ b. unless n digits odd (cause_of 2 odd (get_or l odd 0)) _ rest refl refl
        (λ d. no_digit format l from d) (λ d. all_digits_lem format l from d)
        (λ d. unless n (eqb (length l) wanted) wanted (cause_of 3 (length l) wanted) _ rest refl refl
        (λ e. (long-is format l from body least bare sizes d, eqb-false (length l) wanted e))
        (λ e. long-right format l from body least bare sizes d (eqb-true (length l) wanted e))
        (λ e.
        let long = eqb-true (length l) wanted e in
        let count = count-is format l from d (long-by format l from body least bare sizes d long).0 in
        where-so n (ltb (pair_at l from) least) (pair_at l from) (cause_of 4 (pair_at l from) least) (sum_cause from body target l) rest refl refl
        (λ c. (count, ltb-true (pair_at l from) least c))
        (λ c x h. omega (arith, ltb-false (pair_at l from) least c, h.1, count-one format l from h.0 count))
        (λ c. unless n sums _ (cause_of 5 _ _) (cause_of 0 0 0) rest refl refl
        (λ t. sum-wrong format l from body least bare sizes d long target is t)
        (λ t x. sum-right format l from body least bare sizes d long target is t x.0 x.1)
        (λ t. on b d long (ltb-false (pair_at l from) least c) t)))))

-- ---- a line at fault, by its format
module _ (format load : ℕ) (text : List ℕ) (n : ℕ) (l : List ℕ) (left : List (List ℕ)) (here : drop n (lines format text) ≡ l ∷ left)
    (fault : AtFault format load text n l) where
  abbrev st : ℕ
  st = (trail format text n).state

  abbrev ls : List (List ℕ)
  ls = lines format text

  abbrev span : Cause
  span = span_cause format load text n (start_by format st l) (many_by format l) (top_by format l)

  at-span : {after top : ℕ} {p : Piece} → DataLine format st l after top p → start_by format st l ≡ p.address → many_by format l ≡ length p.bytes
      → top_by format l ≡ top → SpanSays format load ls n st l (told_of n span)
  at-span {p = p} d a b c = rw (a, b, c) (span-says format load text n l left here fault d)

  -- the reasons of a line by itself, its format known
  abbrev spelled_as : Bool → Cause
  spelled_as t = spelled (pick t (eqb (get_or l 0 0) 58) (is_s (get_or l 0 0))) (pick t 1 2) (pick t 4 0) (pick t 0 3) (pick t 0 255) l

  own-by : (t : Bool) → eqb format 0 ≡ t → own_cause format st l ≡ or_else (spelled_as t) (pick t (hex_typed l) (srec_typed st l))
  unfolding own_cause
  own-by t e = ap (λ (b : Bool). or_else (spelled_as b) (pick b (hex_typed l) (srec_typed st l))) e

  chain-of : (capital small from bare least : ℕ) (a b : Cause) → own_cause format st l ≡ or_else a b
      → LineChain format load ls n st capital small from bare least l (told_of n (or_else a (or_else b span)))
      → LineChain format load ls n st capital small from bare least l (told_of n (line_cause format load text n st l))
  chain-of capital small from bare least a b e x =
      subst (λ (c : Cause). LineChain format load ls n st capital small from bare least l (told_of n c))
      (sym (ap (λ (c : Cause). or_else c span) e ∙ or_assoc a b span)) x

  -- Intel HEX
  module _ (hex : format ≡ 0) where
    colon : eqb (get_or l 0 0) 58 ≡ true → Starts 58 58 l
    colon e = go l (eqb-true (get_or l 0 0) 58 e)
      where
        go : (t : List ℕ) → get_or t 0 0 ≡ 58 → Starts 58 58 t
        go [] z = absurd (omega arith)
        go (c ∷ t) z = inl (omega arith, z)

    no-colon : eqb (get_or l 0 0) 58 ≡ false → Starts 58 58 l → ⊥
    no-colon e (inl x) = eqb-false (get_or l 0 0) 58 e (inside l 0 0 58 x.0 ∙ x.1)
    no-colon e (inr x) = eqb-false (get_or l 0 0) 58 e (inside l 0 0 58 x.0 ∙ x.1)

    hex-good : eqb (get_or l 0 0) 58 ≡ true → all_digits (drop 1 l) ≡ true → length l ≡ wanted_of 1 4 0 l
        → eqb (sum_of (bytes_at l 1 (4 + pair_at l 1 + 1)) % 256) 0 ≡ true → good_line l ≡ true
    unfolding good_line
    hex-good c d e t =
        let size : length l ≡ 11 + 2 * pair_at l 1 = omega (arith, (long-by format l 1 4 0 11 refl d e).1) in
        let many : 4 + pair_at l 1 + 1 ≡ 5 + pair_at l 1 = omega arith in
        rw (c, eq-eqb (length l) (11 + 2 * pair_at l 1) size, d) (subst (λ (k : ℕ). eqb (sum_of (bytes_at l 1 k) % 256) 0 ≡ true) many t)

    hex-span : good_line l ≡ true → type_of l ≡ 0 → SpanSays format load ls n st l (told_of n span)
    hex-span good t =
        let x = good-hex l good in
        let y = subst (λ (k : ℕ). Hex r.either l k (field_of l) (bytes_at l 9 (count_of l))) t x in
        let e = eq-eqb format 0 hex in
        at-span {p = piece (65536 * st + field_of l) (bytes_at l 9 (count_of l))} (s.hex hex y refl) (rw e refl)
        (rw e (sym (length-list_of (count_of l) (λ j. pair_at l (9 + 2 * j))))) (rw e refl)

    hex-says : LineChain format load ls n st 58 58 1 11 0 l (told_of n (line_cause format load text n st l))
    hex-says = chain-of 58 58 1 11 0 (spelled_as true) (hex_typed l) (own-by true (eq-eqb format 0 hex))
        (spelled-says format load ls n st 58 58 1 4 0 0 11 l refl (inl (hex, refl)) (eqb (get_or l 0 0) 58) colon no-colon (or_else (hex_typed l) span)
        (λ b d e c t. let good = hex-good b d e t in hex-typed format load text ls n l fault hex good span (hex-span good)))

  -- S-records
  module _ (m : format ≡ 0 → ⊥) where
    letter : is_s (get_or l 0 0) ≡ true → Starts 83 115 l
    letter e = go l e
      where
        go : (t : List ℕ) → is_s (get_or t 0 0) ≡ true → Starts 83 115 t
        go [] z = absurd (clash z refl)
        go (c ∷ t) z = either (eqb c 83) (λ a. inl (omega arith, eqb-true c 83 a)) (λ a. inr (omega arith, eqb-true c 115 (rw a at z)))

    no-letter : is_s (get_or l 0 0) ≡ false → Starts 83 115 l → ⊥
    no-letter e (inl x) = clash (ap is_s (inside l 0 0 83 x.0 ∙ x.1)) e
    no-letter e (inr x) = clash (ap is_s (inside l 0 0 115 x.0 ∙ x.1)) e

    module _ (b : is_s (get_or l 0 0) ≡ true) (d : all_digits (drop 2 l) ≡ true) (e : length l ≡ wanted_of 2 0 3 l) (three : 3 ≤ pair_at l 2)
        (t : eqb (sum_of (bytes_at l 2 (0 + pair_at l 2 + 1)) % 256) 255 ≡ true) where
      size : length l ≡ 4 + 2 * pair_at l 2
      size = omega (arith, (long-by format l 2 0 3 4 refl d e).1)

      is-sound : is_sound l ≡ true
      unfolding is_sound
      is-sound =
          let many : 0 + pair_at l 2 + 1 ≡ pair_at l 2 + 1 = omega arith in
          rw (le-leb 4 (length l) (omega (arith, size)), b, d, eq-eqb (length l) (4 + 2 * pair_at l 2) size)
          (subst (λ (k : ℕ). eqb (sum_of (bytes_at l 2 k) % 256) 255 ≡ true) many t)

      few : {v : ℕ} → v < pair_at l 2 → length (data_of v l) ≡ pair_at l 2 - v - 1
      few {v} h = length-list_of (pair_at l 2 - v - 1) (λ j. pair_at l (4 + 2 * v + 2 * j))

      srec-span : (v : ℕ) → back.Width v → get_or l 1 0 ≡ data_digit v → agrees st v ≡ true → v < pair_at l 2 → SpanSays format load ls n st l (told_of n span)
      unfolding list_of number_from
      srec-span v x k own h =
          let y = subst (λ (j : ℕ). Srec r.either l j v (address_of v l) (data_of v l)) k (good-srec x l is-sound h) in
          at-span {p = piece (address_of v l) (data_of v l)} (s.s-record m (width_is x) (own-width st v own) y)
          (start x k) (many x k h) (last x k)
        where
          start : {v : ℕ} → back.Width v → get_or l 1 0 ≡ data_digit v → start_by format st l ≡ address_of v l
          start back.two k = rw (ne_eqb format 0 m, k) (omega arith)
          start back.four k = rw (ne_eqb format 0 m, k) (omega arith)

          many : {v : ℕ} → back.Width v → get_or l 1 0 ≡ data_digit v → v < pair_at l 2 → many_by format l ≡ length (data_of v l)
          many back.two k h = rw (ne_eqb format 0 m, k) (omega (arith, few {v = 2} h))
          many back.four k h = rw (ne_eqb format 0 m, k) (omega (arith, few {v = 4} h))

          last : {v : ℕ} → back.Width v → get_or l 1 0 ≡ data_digit v → top_by format l ≡ 256 ^ v
          last back.two k = rw (ne_eqb format 0 m, k) refl
          last back.four k = rw (ne_eqb format 0 m, k) refl

      srec-on : TypeSays format load ls n st l (told_of n (or_else (srec_typed st l) span))
      srec-on =
          srec-typed format load text ls n l fault m is-sound (omega (arith, size))
          (count-is format l 2 d (omega (arith, size))) three span srec-span

    srec-says : LineChain format load ls n st 83 115 2 4 3 l (told_of n (line_cause format load text n st l))
    srec-says = chain-of 83 115 2 4 3 (spelled_as false) (srec_typed st l) (own-by false (ne_eqb format 0 m))
        (spelled-says format load ls n st 83 115 2 0 3 255 4 l refl (inr (m, refl)) (is_s (get_or l 0 0)) letter no-letter (or_else (srec_typed st l) span)
        (λ b d e c t. srec-on b d e c t))

  line-says : LineSays format load ls n (told_of n (line_cause format load text n st l))
  line-says = either (eqb format 0)
      (λ t. let h = eqb-true format 0 t in typed.line-says (line_at format text n here) (s.hex h) (hex-says h))
      (λ t. let m = eqb-false format 0 t in typed.line-says (line_at format text n here) (s.s-records m) (srec-says m))

-- ---- the line at fault
no_lines : (t : List ℕ) → lines_of t ≡ [] → length t ≡ 0
unfolding lines_of
no_lines [] e = refl
no_lines (c ∷ t) e = absurd (not-empty (sym (sym (lines-first c t) ∙ e)))

some-lines : (t : List ℕ) {l : List ℕ} {rest : List (List ℕ)} → lines_of t ≡ l ∷ rest → 0 < length t
unfolding lines_of
some-lines [] e = absurd (not-empty e)
some-lines (c ∷ t) e = omega arith

is-end : (x : Item) → is_end x ≡ true → x ≡ ends
is-end (Rattle.record_lines.specs.Items.gives a b c) e = absurd (clash e refl)
is-end (Rattle.record_lines.specs.Items.passes a) e = absurd (clash e refl)
is-end ends e = refl
is-end bad e = absurd (clash e refl)

module _ (format load : ℕ) (text : List ℕ) where
  abbrev all : List (List ℕ)
  all = lines format text

  abbrev reason : ℕ → Cause
  reason n = cause_at format load text n

  end-record : (st : ℕ) (l : List ℕ) {x : Item} → items.Said format st l x → x ≡ ends → EndRecord format l
  end-record st l (items.gave g) e = unlike cc
  end-record st l (items.moved f h) e = unlike cc
  end-record st l (items.skipped m) e = unlike cc
  end-record st l (items.closed c) e = c
  end-record st l items.none e = unlike cc

  -- behind the end record
  behind : (n : ℕ) → ends_before format text n ≡ true → n ≤ length all → Ended format load all n
  behind zero e d = absurd (clash e refl)
  behind (suc m) e d =
      let k = drop-some all m (omega arith) in
      let st = (trail format text m).state in
      let item = is-end (item_of format text m) e in
      let same = sym (ap (λ (x : List ℕ). format_by format st x) (line-is format text m k.2)) ∙ item in
      (m, k.0, refl, drop_at m all k.2, end-record st k.0 (said format st k.0) same)

  not_behind : (n : ℕ) → Goes format load text n → Ended format load all n → ⊥
  not_behind n g x =
      let m = x.0 in
      let goes = subst (λ (j : ℕ). Goes format load text j) x.2 g in
      let d = at_drop m all x.1 x.3 in
      let same = ap (λ (y : List ℕ). format_by format (trail format text m).state y) (line-is format text m d.1) in
      ⊎_elim (λ e. goes.0 (same ∙ e)) (λ e. goes.1 (same ∙ e)) (end-item format (trail format text m).state x.4)

  at-line : (n : ℕ) {l : List ℕ} {left : List (List ℕ)} → Goes format load text n → drop n all ≡ l ∷ left → AtFault format load text n l
      → FaultLine format load all n (told_of n (reason n))
  at-line n {l} {left} g d a =
      let at = (trail format text n).at in
      let some = some-lines (drop at text) (lines_from format text n ∙ d) in
      rw (goes-no-end format load text n g, lt-leb (length text) at (omega (arith, length-drop at text)), line-is format text n d)
      (lined (not_behind n g) (line-says format load text n l left d a))

  pub by-fault : (n : ℕ) → n ≤ length all → Fault format load text n → FaultLine format load all n (told_of n (reason n))
  by-fault n h (stops.after-end e d) = rw e (s.behind (drop-long n all d) (behind n e h))
  by-fault n h (stops.missing g d) =
      let at = (trail format text n).at in
      let none = no_lines (drop at text) (lines_from format text n ∙ d) in
      rw (goes-no-end format load text n g, le-leb (length text) at (omega (arith, length-drop at text)))
      (s.no_end (omega (arith, empty-drop n all d)) (not_behind n g))
  by-fault n h (stops.broken g d e) = at-line n g d (broken e)
  by-fault n h (stops.unfit a b c g d e f) = at-line n g d (unfit a b c e f)

  -- ---- the lines before it have none
  no-fault : (n : ℕ) → Stands format load text n → (y : DkReason) → FaultLine format load all n y → ⊥
  no-fault n (stops.given a b c g d e f) y (s.behind h x) = not_behind n g x
  no-fault n (stops.given a b c g d e f) y (s.no_end z m) = omega (arith, drop-long n all d)
  no-fault n (stops.given {l} {rest} a b c g d e f) y (s.line m x o t) = given-none format load text n l rest d a b c e f y (typed.line-says x o t)
  no-fault n (stops.kept g d e k) y (s.behind h x) = not_behind n g x
  no-fault n (stops.kept g d e k) y (s.no_end z m) = omega (arith, drop-long n all d)
  no-fault n (stops.kept {l} {rest} g d e k) y (s.line m x o t) = kept-none format load text n l rest d k e y (typed.line-says x o t)
  no-fault n (stops.over h f) y (s.behind k x) = omega arith
  no-fault n (stops.over h f) y (s.no_end z m) = m (behind n (f z) (omega arith))
  no-fault n (stops.over h f) y (s.line m x g t) = omega (arith, drop-long n all (drop-line format x).1)

  -- ---- the file
  says : (scratch : List ℕ) (x : Read) → read_text format load text ≡ x → DkReasonSays format load text scratch (reason_told (why_of format load text x), scratch)
  says scratch (sound out) e = s.none (lines-meet text) (λ n. no-fault n (stands_good format load text out e n))
  says scratch (faulty n) e =
      let told = by-fault n (fault-within format load text n e) (fault-at format load text n e) in
      s.first (lines-meet text) (record {
        so = (told_of n (reason n), told);
        none_below = λ k x. elim (dec_lt k n) [
          | yes h ↦ absurd (no-fault k (stands-before format load text n k e h) x.0 x.1)
          | no h ↦ omega arith
        ];
      }) told

  pub reason-meets : (scratch : List ℕ) (r : DkReason) (new : List ℕ) → r ≡ reason_told (why_of format load text (read_text format load text)) → new ≡ scratch
      → DkReasonSays format load text scratch (r, new)
  reason-meets scratch r new e f = subst (DkReasonSays format load text scratch) (sym (paired e f)) (says scratch (read_text format load text) refl)

-- ---- the call
module _ (format load : ℕ) (text scratch : List ℕ) where
  by_kind : {k : ℕ} {r : DkReason} {new : List ℕ} → kind_of format ≡ k → ReasonTold format load text scratch r new
      → r ≡ reason_told (why_of k load text (read_text k load text))
  by_kind e c = c.answer ∙ ap (λ (k : ℕ). reason_told (why_of k load text (read_text k load text))) e

  pub dk-reason-meets : (r : DkReason) (new : List ℕ) → ReasonTold format load text scratch r new → DkReasonSays format load text scratch (r, new)
  dk-reason-meets r new c = reason-meets format load text scratch r new (either (eqb format 0)
      (λ t. by_kind {k = format} (rw t (sym (eqb-true format 0 t))) c)
      (λ t.
      let m = eqb-false format 0 t in
      by_kind {k = 1} (rw t refl) c
      ∙ sym (ap reason_told (same-why format load text m (read_text format load text) ∙ ap (why_of 1 load text) (same_read format load text m))))) c.left
