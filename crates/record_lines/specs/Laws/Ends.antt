-- Where a line ends: by the characters at a place, and by what stands before it.
use Rattle.std.specs.Prelude.{◌≡◌, ℕ, suc, ◌+◌, ◌<◌, ◌≤◌, Bool, true, false, ◌&&◌, List, [], ◌∷◌, ◌++◌, length, drop, ◌≢◌, slice_index, refl}
use Rattle.std.proofs.Common.{sym, ap, ◌∙◌, arith, add-one, ne_eqb, drop_of_length-le, drop-cons}
use Rattle.prelude.specs.Pick.{pick}
use Rattle.prelude.specs.Laws.Bools.{clash, both}
use Rattle.record_lines.specs.Cuts.{end_width}
use Rattle.record_lines.specs.Digits.{value_of, is_digit, all_digits}
use Rattle.record_lines.specs.Lines.{is_lf, is_cr, lf_next, first_line, taken}
use Rattle.record_lines.specs.Laws.Lines.{line-goes-on}

-- ---- the end at a place

module _ (l : List ℕ) (i : ℕ) where
  pub end-past : length l ≤ i → end_width (drop i l) ≡ 0
  end-past h = ap end_width (drop_of_length-le l h)

  module _ (h : i < length l) where
    pub end-lf : is_lf (slice_index l i) ≡ true → end_width (drop i l) ≡ 1
    end-lf e = ap end_width (drop-cons l i 0 h) ∙ rw e

    module _ (e : is_lf (slice_index l i) ≡ false) where
      pub end-cr-lf : (is_cr (slice_index l i) && lf_next (drop (i + 1) l)) ≡ true → end_width (drop i l) ≡ 2
      end-cr-lf f = let g : (is_cr (slice_index l i) && lf_next (drop (suc i) l)) ≡ true = rw (add-one i) at f in ap end_width (drop-cons l i 0 h) ∙ rw (e, g)

      pub end-not : (is_cr (slice_index l i) && lf_next (drop (i + 1) l)) ≡ false → end_width (drop i l) ≡ 3
      end-not f = let g : (is_cr (slice_index l i) && lf_next (drop (suc i) l)) ≡ false = rw (add-one i) at f in ap end_width (drop-cons l i 0 h) ∙ rw (e, g)

-- ---- a line, its length and its end

taken-one : (c : ℕ) (t : List ℕ) (a b : Bool) (l : List ℕ) (n : ℕ) → is_lf c ≡ a → (is_cr c && lf_next t) ≡ b → n ≡ length l + end_width (drop (length l) t)
    → pick a 1 (pick b 2 (suc n)) ≡ length (pick a [] (pick b [] (c ∷ l))) + end_width (drop (length (pick a [] (pick b [] (c ∷ l)))) (c ∷ t))
taken-one c t true b l n p q e = rw p
taken-one c t false true l n p q e = rw (p, q)
taken-one c t false false l n p q e = omega (arith, e)

pub taken_is : (t : List ℕ) → taken t ≡ length (first_line t) + end_width (drop (length (first_line t)) t)
unfolding taken first_line
taken_is [] = refl
taken_is (c ∷ t) = taken-one c t (is_lf c) (is_cr c && lf_next t) (first_line t) (taken t) refl refl (taken_is t)

-- Characters that end no line.
abbrev pub Clean : List ℕ → Type 0
Clean [] = Unit {0}
Clean (c ∷ l) = ((c ≢ 10) × (c ≢ 13)) × Clean l

first-none : (c : ℕ) (t : List ℕ) (a b : Bool) → (◌≡◌ {A = ℕ} (pick a 1 (pick b 2 3)) 3 → ⊥) → pick a [] (pick b [] (c ∷ first_line t)) ≡ []
first-none c t true b h = refl
first-none c t false true h = refl
first-none c t false false h = absurd (h refl)

-- Such a line, with an end behind it, is the first line.
pub clean-first : (l rest : List ℕ) → Clean l → (end_width rest ≢ 3) → first_line (l ++ rest) ≡ l
unfolding first_line
clean-first [] [] k h = refl
clean-first [] (c ∷ t) k h = first-none c t (is_lf c) (is_cr c && lf_next t) h
clean-first (c ∷ l) rest k h =
    (line-goes-on c (l ++ rest) (ne_eqb c 10 k.0.0) (rw (ne_eqb c 13 k.0.1))).0 ∙ ap (λ (x : List ℕ). c ∷ x) (clean-first l rest k.1 h)

-- Digits are such characters.
digit-clean : (c : ℕ) → is_digit c ≡ true → (c ≢ 10) × (c ≢ 13)
unfolding value_of
digit-clean c d = (λ e. no 10 refl (sym (ap is_digit e) ∙ d), λ e. no 13 refl (sym (ap is_digit e) ∙ d))
  where
    no : (n : ℕ) → is_digit n ≡ false → is_digit n ≢ true
    no n f t = clash t f

pub digits-clean : (l : List ℕ) → all_digits l ≡ true → Clean l
unfolding all_digits
digits-clean [] h = tt
digits-clean (c ∷ l) h = let two = both (is_digit c) (all_digits l) h in (digit-clean c two.0, digits-clean l two.1)
