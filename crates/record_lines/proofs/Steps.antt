-- One turn of each loop, on lists and places: a law for each way that it goes.
use Rattle.std.proofs.Common.{◌≡◌, ℕ, zero, suc, ◌-◌, Bool, eq-eqb, ne_eqb, [], ◌∷◌, refl, ◌∙◌, ◌+◌, ◌<◌, ◌≤◌, true, false, ◌&&◌, List, length, get_or, drop, ap, add-one, arith, drop_of_length-le, drop-cons, lt-ltb}
use Rattle.std.specs.List.{list_all}
use Rattle.prelude.specs.Pick.{pick}
use Rattle.record_lines.specs.Digits.{value_of, is_digit, all_digits}
use Rattle.record_lines.specs.Lines.{is_lf, is_cr, first_line, taken}
use Rattle.record_lines.specs.Laws.Lines.{line-at-lf, line-at-cr-lf, line-goes-on}

never : (a : Bool) {b : Bool} → b ≡ false → (a && b) ≡ false
never true e = e
never false e = refl

module _ (l : List ℕ) (i : ℕ) where
  pub digits-on : i < length l → value_of (get_or l i 0) < 16 → all_digits (drop i l) ≡ all_digits (drop (i + 1) l)
  unfolding all_digits
  digits-on h e = rw (add-one i, drop-cons l i 0 h, lt-ltb (value_of (get_or l i 0)) 16 e)

  pub digits-done : length l ≤ i → all_digits (drop i l) ≡ true
  unfolding all_digits
  digits-done h = rw (drop_of_length-le l h)

  pub cut-end : length l ≤ i → (length (first_line (drop i l)) ≡ 0) × (taken (drop i l) ≡ 0)
  unfolding first_line taken
  cut-end h = (rw (drop_of_length-le l h), rw (drop_of_length-le l h))

-- A test of every character is the definition's.
pub digits-all : (l : List ℕ) → list_all is_digit l ≡ all_digits l
unfolding all_digits
digits-all [] = refl
digits-all (c ∷ l) = ap (λ (b : Bool). is_digit c && b) (digits-all l)

-- Where no LF stands, the line is all of the text.
pub cut-none : (t : List ℕ) → ((k : ℕ) → k < length t → is_lf (get_or t k 0) ≡ false) → (length (first_line t) ≡ length t) × (taken t ≡ length t)
unfolding first_line taken
cut-none [] f = (refl, refl)
cut-none (c ∷ []) f =
    let w = line-goes-on c [] (f 0 (omega arith)) (never (is_cr c) refl) in
    (ap length w.0, w.1)
cut-none (c ∷ d ∷ t) f =
    let w = line-goes-on c (d ∷ t) (f 0 (omega arith)) (never (is_cr c) (f 1 (omega arith))) in
    let r = cut-none (d ∷ t) (λ k h. f (suc k) (omega arith)) in
    (ap length w.0 ∙ ap suc r.0, w.1 ∙ ap suc r.1)

-- Whether a CR stands right before a place.
abbrev pub cr_before : List ℕ → ℕ → Bool
cr_before t zero = false
cr_before t (suc p) = is_cr (get_or t p 0)

-- Where the first LF stands at p, the line ends there, or at the CR right before it.
pub cut-at : (t : List ℕ) (p : ℕ) → p < length t → is_lf (get_or t p 0) ≡ true → ((k : ℕ) → k < p → is_lf (get_or t k 0) ≡ false)
    → (length (first_line t) + pick (cr_before t p) 1 0 ≡ p) × (taken t ≡ p + 1)
cut-at [] p h e f = absurd (omega arith)
cut-at (c ∷ t) zero h e f =
    let w = line-at-lf c t e in
    (omega (arith, ap length w.0), w.1)
cut-at (c ∷ []) (suc p) h e f = absurd (omega arith)
cut-at (c ∷ d ∷ t) (suc zero) h e f = go (is_cr c) refl
  where
    go : (b : Bool) → is_cr c ≡ b → (length (first_line (c ∷ d ∷ t)) + pick (is_cr c) 1 0 ≡ 1) × (taken (c ∷ d ∷ t) ≡ 2)
    go true b =
        let w = line-at-cr-lf c (d ∷ t) (f 0 (omega arith)) (rw (b, e) refl) in
        rw b (omega (arith, ap length w.0), w.1)
    go false b =
        let w = line-goes-on c (d ∷ t) (f 0 (omega arith)) (rw b refl) in
        let r = line-at-lf d t e in
        rw b (omega (arith, ap length w.0, ap length r.0), w.1 ∙ ap suc r.1)
cut-at (c ∷ d ∷ t) (suc (suc p)) h e f =
    let w = line-goes-on c (d ∷ t) (f 0 (omega arith)) (never (is_cr c) (f 1 (omega arith))) in
    let r = cut-at (d ∷ t) (suc p) (omega arith) e (λ k q. f (suc k) (omega arith)) in
    (omega (arith, ap length w.0, r.0), w.1 ∙ ap suc r.1 ∙ omega arith)

module _ (t : List ℕ) where
  pub cr-there : (p : ℕ) → 0 < p → get_or t (p - 1) 0 ≡ 13 → cr_before t p ≡ true
  cr-there zero h e = absurd (omega arith)
  cr-there (suc p) h e = eq-eqb (get_or t p 0) 13 (ap (λ (k : ℕ). get_or t k 0) (omega arith) ∙ e)

  pub cr-other : (p : ℕ) → 0 < p → (get_or t (p - 1) 0 ≡ 13 → ⊥) → cr_before t p ≡ false
  cr-other zero h e = absurd (omega arith)
  cr-other (suc p) h e = ne_eqb (get_or t p 0) 13 (λ q. e (ap (λ (k : ℕ). get_or t k 0) (omega arith) ∙ q))

  pub cr-none : (p : ℕ) → p ≤ 0 → cr_before t p ≡ false
  cr-none zero h = refl
  cr-none (suc p) h = absurd (omega arith)
