-- Numbers of a line one by one: the next of those left, and one more of those passed.
use mathlib.Core.Path.{◌≡◌, refl, sym, ap, ◌∙◌}
use mathlib.Core.List.{List, [], ◌∷◌, ◌++◌, append_assoc, append-nil}
use Prim.Native.Nat.{ℕ, ◌+◌, ◌≤◌, ◌<◌}
use native.Mathlib.Numerals.{add-one}
use native.Mathlib.Omega.{arith}
use lib.ListN.{length, get_or, take, drop, length-append, drop_of_length-le}
use lib.Seq.{drop-cons, take-suc}
use Rattle.print_text.specs.Decimal.{decimal}
use Rattle.print_text.specs.Lines.{spaced}

pub spaced-append : (xs ys : List ℕ) → spaced (xs ++ ys) ≡ spaced xs ++ spaced ys
unfolding spaced
spaced-append [] ys = refl
spaced-append (x ∷ xs) ys =
    ap (λ (l : List ℕ). 32 ∷ (decimal x ++ l)) (spaced-append xs ys)
    ∙ ap (λ (l : List ℕ). 32 ∷ l) (sym (append_assoc (decimal x) (spaced xs) (spaced ys)))

module _ (ns : List ℕ) (i : ℕ) (h : i < length ns) where
  -- one number more is passed
  pub spaced-take : spaced (take (i + 1) ns) ≡ spaced (take i ns) ++ (32 ∷ decimal (get_or ns i 0))
  unfolding spaced
  spaced-take =
      ap spaced (ap (λ (k : ℕ). take k ns) (add-one i) ∙ take-suc ns i 0 h)
      ∙ spaced-append (take i ns) (get_or ns i 0 ∷ [])
      ∙ ap (λ (l : List ℕ). spaced (take i ns) ++ (32 ∷ l)) (append-nil (decimal (get_or ns i 0)))

  -- the length of what is left, by its next number
  pub spaced-left : length (spaced (drop i ns)) ≡ length (decimal (get_or ns i 0)) + 1 + length (spaced (drop (i + 1) ns))
  unfolding spaced
  spaced-left =
      ap (λ (l : List ℕ). length (spaced l)) (drop-cons ns i 0 h ∙ ap (λ (k : ℕ). get_or ns i 0 ∷ drop k ns) (sym (add-one i)))
      ∙ omega (arith, length-append (decimal (get_or ns i 0)) (spaced (drop (i + 1) ns)))

-- nothing is left behind the last number
pub spaced-done : (ns : List ℕ) (i : ℕ) → length ns ≤ i → length (spaced (drop i ns)) ≡ 0
unfolding spaced
spaced-done ns i h = ap (λ (l : List ℕ). length (spaced l)) (drop_of_length-le ns h)
