-- What a line says, by the tests on the way to each return.
use mathlib.Core.Path.{◌≡◌, refl, sym, ap, ◌∙◌}
use mathlib.Core.Bool.{Bool, true, false, ◌&&◌}
use mathlib.Core.List.{List}
use Prim.Native.Nat.{ℕ, ◌+◌, ◌*◌, ◌%◌}
use native.Mathlib.Omega.{arith}
use borrow.Author.Tests.{eq-eqb, ne_eqb}
use lib.Dec.{eqb}
use lib.ListN.{length, drop, get_or}
use Rattle.record_lines.specs.Digits.{all_digits, bytes_at}
use Rattle.record_lines.specs.Items.{gives, passes, ends, bad}
use Rattle.prelude.specs.Pick.{pick}
use Rattle.record_lines.specs.Spelling.{checked_sum}
use Rattle.record_lines.specs.Sums.{sum_of}
use Rattle.record_ihex_line.specs.Format.{word_at, count_of, field_of, type_of, good_line, by_type, hex_item}

checked : (long d : Bool) (n : ℕ) → eqb (pick long (pick d n 256) 256) 0 ≡ (long && d && eqb n 0)
checked true true n = refl
checked true false n = refl
checked false d n = refl

module _ (line : List ℕ) where
  pub no-colon : (x : ℕ) → x ≡ get_or line 0 0 → (x ≡ 58 → ⊥) → false ≡ good_line line
  unfolding good_line
  no-colon x e h = rw (ne_eqb (get_or line 0 0) 58 (λ f. h (e ∙ f)))

  module _ (x k : ℕ) (ex : x ≡ get_or line 0 0) (colon : x ≡ 58) (ek : k ≡ count_of line) where
    pub by-sum : (s : ℕ) → s ≡ checked_sum line 1 (5 + k) → eqb s 0 ≡ good_line line
    unfolding good_line
    by-sum s e =
        let sum = sum_of (bytes_at line 1 (5 + count_of line)) % 256 in
        let long : 1 + 2 * (5 + count_of line) ≡ 11 + 2 * count_of line = omega arith in
        rw (eq-eqb (get_or line 0 0) 58 (sym ex ∙ colon))
        (ap (λ (n : ℕ). eqb n 0) (e ∙ ap (λ (n : ℕ). checked_sum line 1 (5 + n)) ek)
        ∙ ap (λ (n : ℕ). eqb (pick (eqb (length line) n) (pick (all_digits (drop 1 line)) sum 256) 256) 0) long
        ∙ checked (eqb (length line) (11 + 2 * count_of line)) (all_digits (drop 1 line)) sum)

  module _ (upper : ℕ) where
    module _ (g : good_line line ≡ true) (t f n : ℕ) (et : t ≡ type_of line) (ef : f ≡ field_of line) (en : n ≡ count_of line) where
      pub data-line : t ≡ 0 → hex_item upper line ≡ gives (65536 * upper + f) (bytes_at line 9 n) upper
      unfolding hex_item by_type
      data-line z = rw (g, eq-eqb (type_of line) 0 (sym et ∙ z), ef, en)

      pub field-bad : (t ≡ 0 → ⊥) → (f ≡ 0 → ⊥) → hex_item upper line ≡ bad
      unfolding hex_item by_type
      field-bad z w = rw (g, ne_eqb (type_of line) 0 (λ e. z (et ∙ e)), ne_eqb (field_of line) 0 (λ e. w (ef ∙ e)))

      pub end_line : t ≡ 1 → f ≡ 0 → n ≡ 0 → hex_item upper line ≡ ends
      unfolding hex_item by_type
      end_line z w v =
          rw (
            g,
            ne_eqb (type_of line) 0 (λ e. omega (arith, sym et ∙ z)),
            eq-eqb (field_of line) 0 (sym ef ∙ w),
            eq-eqb (type_of line) 1 (sym et ∙ z),
            eq-eqb (count_of line) 0 (sym en ∙ v),
          )

      pub end-bad : t ≡ 1 → f ≡ 0 → (n ≡ 0 → ⊥) → hex_item upper line ≡ bad
      unfolding hex_item by_type
      end-bad z w v =
          rw (
            g,
            ne_eqb (type_of line) 0 (λ e. omega (arith, sym et ∙ z)),
            eq-eqb (field_of line) 0 (sym ef ∙ w),
            eq-eqb (type_of line) 1 (sym et ∙ z),
            ne_eqb (count_of line) 0 (λ e. v (en ∙ e)),
          )

      pub upper-line : t ≡ 4 → f ≡ 0 → n ≡ 2 → hex_item upper line ≡ passes (word_at line 9)
      unfolding hex_item by_type
      upper-line z w v =
          rw (
            g,
            ne_eqb (type_of line) 0 (λ e. omega (arith, sym et ∙ z)),
            eq-eqb (field_of line) 0 (sym ef ∙ w),
            ne_eqb (type_of line) 1 (λ e. omega (arith, sym et ∙ z)),
            eq-eqb (type_of line) 4 (sym et ∙ z),
            eq-eqb (count_of line) 2 (sym en ∙ v),
          )

      pub upper-bad : t ≡ 4 → f ≡ 0 → (n ≡ 2 → ⊥) → hex_item upper line ≡ bad
      unfolding hex_item by_type
      upper-bad z w v =
          rw (
            g,
            ne_eqb (type_of line) 0 (λ e. omega (arith, sym et ∙ z)),
            eq-eqb (field_of line) 0 (sym ef ∙ w),
            ne_eqb (type_of line) 1 (λ e. omega (arith, sym et ∙ z)),
            eq-eqb (type_of line) 4 (sym et ∙ z),
            ne_eqb (count_of line) 2 (λ e. v (en ∙ e)),
          )

      pub other-bad : (t ≡ 0 → ⊥) → (t ≡ 1 → ⊥) → (t ≡ 4 → ⊥) → f ≡ 0 → hex_item upper line ≡ bad
      unfolding hex_item by_type
      other-bad z y x w =
          rw (
            g,
            ne_eqb (type_of line) 0 (λ e. z (et ∙ e)),
            eq-eqb (field_of line) 0 (sym ef ∙ w),
            ne_eqb (type_of line) 1 (λ e. y (et ∙ e)),
            ne_eqb (type_of line) 4 (λ e. x (et ∙ e)),
          )
