-- A line that is not bad ends where its count says, and nowhere before.
use mathlib.Core.Path.{◌≡◌, refl, sym, ap, ap₂, subst, ◌∙◌}
use mathlib.Core.Bool.{true, false, ◌&&◌}
use mathlib.Core.List.{List, [], ◌∷◌, ◌++◌}
use Prim.Native.Nat.{ℕ, ◌+◌, ◌-◌, ◌*◌, ◌%◌, ◌≤◌, ◌<◌, min}
use native.Mathlib.Omega.{arith}
use native.Mathlib.Decide.{ℕ_discrete}
use borrow.Author.Tests.{eq-eqb, ne_eqb, eqb-true, le-ltb}
use lib.Dec.{eqb, leb, ltb}
use lib.ListN.{length, take, drop, get_or, length-drop, take-append-drop}
use lib.Seq.{drop-drop, get_or-take, get_or-drop, length-take-le}
use Rattle.prelude.specs.Laws.Bools.{either, both, clash}
use Rattle.prelude.specs.Pick.{pick}
use Rattle.record_lines.specs.Cuts.{end_width}
use Rattle.record_lines.specs.Digits.{value_of, all_digits, pair_at, bytes_at}
use Rattle.record_lines.specs.Items.{bad, as_line, Says}
use Rattle.record_lines.specs.Laws.Ends.{taken_is, Clean, clean-first, digits-clean}
use Rattle.record_lines.specs.Laws.Lines.{first-is-front}
use Rattle.record_lines.specs.Lines.{first_line}
use Rattle.record_lines.specs.Sums.{sum_of}
use Rattle.record_lines.specs.declared.Line.{Line}
use Rattle.record_ihex_line.specs.Format.{count_of, good_line}
use Rattle.record_ihex_line.specs.Laws.Lines.{bad-line, good-long}
use Rattle.record_srec_line.specs.Srec.{is_s, is_sound, typed, srec_item}
use Rattle.record_srec_line.specs.Laws.Lines.{item-bad, item-sound, sound-long, typed-bad}
use Rattle.record_scan.specs.Reading.{format_by}
use Rattle.record_scan.specs.Steps.{first_by, IsGood, stop_by, Stepped}
use Rattle.record_scan.specs.Trail.{line_at, next_of}
use Rattle.record_scan.proofs.Laws.{first-le, next-inside, next-onward, line-part}

-- ---- what a line is that is not bad

module _ (format state : ℕ) (l : List ℕ) where
  pub good-hex : format ≡ 0 → IsGood format state l → good_line l ≡ true
  good-hex e g = either (good_line l) (λ t. t) (λ f. absurd (g (rw (eq-eqb format 0 e) (bad-line l state f))))

  pub good-srec : (format ≡ 0 → ⊥) → IsGood format state l → is_sound l ≡ true
  good-srec e g = either (is_sound l) (λ t. t) (λ f. absurd (g (rw (ne_eqb format 0 e) (item-bad state l f))))

-- A line of another kind than bad is not.
pub says-good : (format state : ℕ) {l : List ℕ} {first : ℕ} {r : Line} → Says l state first r (format_by format state l) → (r.kind ≡ 0 → ⊥)
    → IsGood format state l
says-good format state {l} {first} {r} s k e = k (ap (λ (x : Line). x.kind) (s.answer ∙ ap (as_line state first) e))

hex-parts : (l : List ℕ) → good_line l ≡ true → (get_or l 0 0 ≡ 58) × (all_digits (drop 1 l) ≡ true)
unfolding good_line
hex-parts l g =
    let a = eqb (get_or l 0 0) 58 in
    let b = eqb (length l) (11 + 2 * count_of l) in
    let d = all_digits (drop 1 l) in
    let four = both (a && b && d) (eqb (sum_of (bytes_at l 1 (5 + count_of l)) % 256) 0) g in
    let three = both (a && b) d four.0 in
    (eqb-true (get_or l 0 0) 58 (both a b three.0).0, three.1)

srec-parts : (l : List ℕ) → is_sound l ≡ true → (is_s (get_or l 0 0) ≡ true) × (all_digits (drop 2 l) ≡ true)
unfolding is_sound
srec-parts l g =
    let a = leb 4 (length l) in
    let b = is_s (get_or l 0 0) in
    let d = all_digits (drop 2 l) in
    let f = eqb (length l) (4 + 2 * Rattle.record_srec_line.specs.Srec.count_of l) in
    let five = both (a && b && d && f) (eqb (sum_of (bytes_at l 2 (Rattle.record_srec_line.specs.Srec.count_of l + 1)) % 256) 255) g in
    let four = both (a && b && d) f five.0 in
    let three = both (a && b) d four.0 in
    ((both a b three.0).1, three.1)

hex-clean : (l : List ℕ) → get_or l 0 0 ≡ 58 → all_digits (drop 1 l) ≡ true → Clean l
hex-clean [] e d = tt
hex-clean (c ∷ l) e d = ((λ z. omega (arith, sym e ∙ z), λ z. omega (arith, sym e ∙ z)), digits-clean l d)

not-s : (c n : ℕ) → is_s n ≡ false → is_s c ≡ true → c ≡ n → ⊥
not-s c n f t e = clash (ap is_s (sym e) ∙ t) f

srec-clean : (l : List ℕ) → is_s (get_or l 0 0) ≡ true → (get_or l 1 0 ≡ 10 → ⊥) → (get_or l 1 0 ≡ 13 → ⊥) → all_digits (drop 2 l) ≡ true → Clean l
srec-clean [] s p q d = tt
srec-clean (c ∷ []) s p q d = ((not-s c 10 refl s, not-s c 13 refl s), tt)
srec-clean (c ∷ b ∷ l) s p q d = ((not-s c 10 refl s, not-s c 13 refl s), ((p, q), digits-clean l d))

-- a type that is no digit of those that count
no-type : (state n : ℕ) (l : List ℕ) → n < 48 → is_sound l ≡ true → (srec_item state l ≡ bad → ⊥) → get_or l 1 0 ≡ n → ⊥
no-type state n l h s g e =
    g (item-sound state l s
    ∙ typed-bad (get_or l 1 0) state l (λ z. omega (arith, e, z)) (λ z. omega (arith, e, z)) (λ z. omega (arith, e, z)) (λ z. omega (arith, e, z))
    (λ z. omega (arith, e, z)))

pub good-clean : (format state : ℕ) (l : List ℕ) → IsGood format state l → Clean l
good-clean format state l g =
    elim (ℕ_discrete format 0) [
      | yes e ↦ let p = hex-parts l (good-hex format state l e g) in hex-clean l p.0 p.1
      | no e ↦
          let s = good-srec format state l e g in
          let p = srec-parts l s in
          let h : srec_item state l ≡ bad → ⊥ = λ z. g (rw (ne_eqb format 0 e) z) in
          srec-clean l p.0 (no-type state 10 l (omega arith) s h) (no-type state 13 l (omega arith) s h) p.1
    ]

-- ---- the line at a place, found by its count

module _ (text : List ℕ) (at stop : ℕ) (h : at ≤ stop) (k : stop ≤ length text) where
  abbrev part : List ℕ
  part = take (stop - at) (drop at text)

  behind-part : drop (stop - at) (drop at text) ≡ drop stop text
  behind-part = let e : at + (stop - at) ≡ stop = omega arith in drop-drop (stop - at) at text ∙ ap (λ (n : ℕ). drop n text) e

  pub part-long : length part ≡ stop - at
  part-long = length-take-le (stop - at) (drop at text) (omega (arith, length-drop at text))

  pub line-found : (format state : ℕ) → IsGood format state part → (end_width (drop stop text) ≡ 3 → ⊥) → line_at text at ≡ part
  line-found format state g e =
      ap first_line (sym (take-append-drop (stop - at) (drop at text)) ∙ ap (λ (x : List ℕ). part ++ x) behind-part)
      ∙ clean-first part (drop stop text) (good-clean format state part g) e

  pub stepped_by : (format state width : ℕ) {line : Line} → line_at text at ≡ part → width ≡ end_width (drop stop text)
      → Says part state (first_by format part) line (format_by format state part)
      → Stepped format text at state (record { line = line; stop = stop; next = stop + width })
  stepped_by format state width {line} same w s =
      let long : stop ≡ at + length (line_at text at) = omega (arith, ap length same, part-long) in
      let left : drop (length (line_at text at)) (drop at text) ≡ drop stop text =
      drop-drop (length (line_at text at)) at text ∙ ap (λ (n : ℕ). drop n text) (sym long) in
      let next : stop + width ≡ next_of text at = omega (arith, long, w, taken_is (drop at text), ap end_width left) in
      record {
        says = subst (λ (l : List ℕ). Says l state (first_by format l) line (format_by format state l)) (sym same) s;
        stop = long;
        start = h;
        within = λ z. k;
        part = sym same;
        next = next;
        inside = λ z. rw next (next-inside text at z);
        onward = λ z. rw next (next-onward text at z);
      }

-- ---- a good line's length by its count

same-char : (text : List ℕ) (at i : ℕ) → i < length (line_at text at) → get_or (line_at text at) i 0 ≡ get_or text (at + i) 0
same-char text at i h =
    ap (λ (l : List ℕ). get_or l i 0) (sym (first-is-front (drop at text))) ∙ get_or-take (length (line_at text at)) (drop at text) i 0 h ∙
    get_or-drop at text i 0

same-pair : (text : List ℕ) (at i : ℕ) → i + 1 < length (line_at text at) → pair_at (line_at text at) i ≡ pair_at text (at + i)
same-pair text at i h =
    ap₂ (λ (x y : ℕ). 16 * (value_of x % 16) + value_of y % 16) (same-char text at i (omega arith))
    (same-char text at (i + 1) h ∙ ap (λ (n : ℕ). get_or text n 0) (omega arith))

-- on plain numbers
stops : (left at len long end : ℕ) → len ≡ long → 4 ≤ len → len ≤ left → end ≡ at + left → pick (ltb left 4) end (at + min long left) ≡ at + len
stops left at len long end e f h z = rw (le-ltb left 4 (omega arith)) (omega arith)

pub stop-known : (format state : ℕ) (text : List ℕ) (at : ℕ) → at ≤ length text → IsGood format state (line_at text at)
    → stop_by format text at ≡ at + length (line_at text at)
stop-known format state text at h g =
    let l = line_at text at in
    let room : length l ≤ length text - at = omega (arith, first-le (drop at text), length-drop at text) in
    elim (ℕ_discrete format 0) [
      | yes e ↦
          let long = good-long l (good-hex format state l e g) in
          let same = same-pair text at 1 (omega arith) in
          rw (eq-eqb format 0 e) (stops (length text - at) at (length l) (11 + 2 * pair_at text (at + 1)) (length text) (omega (arith, long, same))
          (omega arith) room
          (omega arith))
      | no e ↦
          let long = sound-long l (good-srec format state l e g) in
          let same : 4 ≤ length l → pair_at l 2 ≡ pair_at text (at + 2) = λ z. same-pair text at 2 (omega arith) in
          rw (ne_eqb format 0 e) (stops (length text - at) at (length l) (4 + 2 * pair_at text (at + 2)) (length text) (omega (
            arith,
            long,
            same
                (omega arith),
          ))
          (omega arith) room (omega arith))
    ]

-- and what is known of it
pub known-part : (format state : ℕ) (text : List ℕ) (at stop : ℕ) → at ≤ length text → IsGood format state (line_at text at) → stop ≡ stop_by format text at
    → line_at text at ≡ take (stop - at) (drop at text)
known-part format state text at stop h g e = sym (line-part text at stop (e ∙ stop-known format state text at h g))
