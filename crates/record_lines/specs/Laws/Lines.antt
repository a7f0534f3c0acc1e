-- Laws that Theorems/Lines rests on.
use Rattle.std.specs.Prelude.{◌≡◌, ℕ, suc, Bool, true, false, ◌&&◌, List, [], ◌∷◌, length, take, drop}
use Rattle.std.proofs.Math.Path.{refl}
use Rattle.std.proofs.Common.{ap}
use Rattle.prelude.specs.Pick.{pick}
use Rattle.record_lines.specs.Lines.{behind, first_line, in_front, is_cr, is_lf, lf_next, lines_of, taken}

-- A text that is not empty is its first line and the lines behind that.
module _ (c : ℕ) where
  pub alone : (a b : Bool) → pick a ([] ∷ []) (pick (b && false) [] ((c ∷ []) ∷ [])) ≡ pick a [] (pick (b && false) [] (c ∷ [])) ∷ lines_of
      (drop (pick a 1 (pick (b && false) 2 1)) (c ∷ []))
  unfolding lines_of
  alone true b = refl
  alone false true = refl
  alone false false = refl

  -- with the lines of what follows written out
  pub before_more : (d : ℕ) (t : List ℕ) (ls : List (List ℕ)) (a b : Bool) → ls ≡ lines_of (d ∷ t) → (is_lf d ≡ true → ls ≡ [] ∷ lines_of t) → ls ≡ first_line
      (d ∷ t) ∷ lines_of (behind (d ∷ t))
      → pick a ([] ∷ ls) (pick (b && is_lf d) ls (in_front c ls))
      ≡ pick a [] (pick (b && is_lf d) [] (c ∷ first_line (d ∷ t))) ∷ lines_of (drop (pick a 1 (pick (b && is_lf d) 2 (suc (taken (d ∷ t))))) (c ∷ d ∷ t))
  before_more d t ls a b same lf h = go a b (is_lf d) lf
    where
      go : (a b e : Bool) → (e ≡ true → ls ≡ [] ∷ lines_of t) → pick a ([] ∷ ls) (pick (b && e) ls (in_front c ls))
          ≡ pick a [] (pick (b && e) [] (c ∷ first_line (d ∷ t))) ∷ lines_of (drop (pick a 1 (pick (b && e) 2 (suc (taken (d ∷ t))))) (c ∷ d ∷ t))
      go true b e lf = ap (λ (x : List (List ℕ)). [] ∷ x) same
      go false true true lf = lf refl
      go false true false lf = ap (in_front c) h
      go false false e lf = ap (in_front c) h

-- The line's characters stand at the front of the text.
front : (c : ℕ) (t l : List ℕ) (a b : Bool) → take (length l) t ≡ l → take (length (pick a [] (pick b [] (c ∷ l)))) (c ∷ t) ≡ pick a [] (pick b [] (c ∷ l))
front c t l true b h = refl
front c t l false true h = refl
front c t l false false h = ap (λ (x : List ℕ). c ∷ x) h

pub first-is-front : (t : List ℕ) → take (length (first_line t)) t ≡ first_line t
unfolding first_line
first-is-front [] = refl
first-is-front (c ∷ t) = front c t (first_line t) (is_lf c) (is_cr c && lf_next t) (first-is-front t)

-- The three ways in which a line goes on.
module _ (c : ℕ) (t : List ℕ) where
  pub line-at-lf : is_lf c ≡ true → (first_line (c ∷ t) ≡ []) × (taken (c ∷ t) ≡ 1)
  unfolding first_line taken
  line-at-lf e = (rw e, rw e)

  pub line-at-cr-lf : is_lf c ≡ false → (is_cr c && lf_next t) ≡ true → (first_line (c ∷ t) ≡ []) × (taken (c ∷ t) ≡ 2)
  unfolding first_line taken
  line-at-cr-lf e f = (rw (e, f), rw (e, f))

  pub line-goes-on : is_lf c ≡ false → (is_cr c && lf_next t) ≡ false → (first_line (c ∷ t) ≡ c ∷ first_line t) × (taken (c ∷ t) ≡ suc (taken t))
  unfolding first_line taken
  line-goes-on e f = (rw (e, f), rw (e, f))
