-- What a loop over the first n elements of an array does to a definition by recursion on their list: at index i it meets the array's
-- own element, and a search has i elements behind it, of which none passed. Assumes nothing.
use mathlib.Core.Path.{◌≡◌}
use mathlib.Core.Bool.{Bool, true, false}
use mathlib.Core.List.{List, [], ◌∷◌}
use Prim.Native.Nat.{ℕ, suc, ◌+◌, ◌≤◌, ◌<◌}
use native.Mathlib.Numerals.{add-one}
use native.Mathlib.Omega.{arith}
use lib.ListN.{length, get_or, take, drop, drop_of_length-le}
use lib.Seq.{length-take-le, drop-cons, get_or-take}
use Rattle.bankdef.specs.Search.{first_where}

-- an array's length, as owning it tells
pub within : {A : Type 0} (l : List A) {m n : ℕ} → length l ≡ m → n ≤ m → n ≤ length l
within l e h = omega arith

module _ {A : Type 0} (d : A) (l : List A) (n : ℕ) (fits : n ≤ length l) where
  -- the element that the walk meets, and what is left after it
  pub met : (i : ℕ) → i < n → drop i (take n l) ≡ get_or l i d ∷ drop (i + 1) (take n l)
  met i h =
      let len = length-take-le n l fits in
      rw (drop-cons (take n l) i d (omega (arith, len)), get_or-take n l i d h, add-one)

  -- the walk's end
  pub ended : (i : ℕ) → n ≤ i → drop i (take n l) ≡ []
  ended i h = drop_of_length-le (take n l) {i = i} (omega (arith, length-take-le n l fits))

  module _ (p : A → Bool) where
    pub passed : (i : ℕ) {k : ℕ} → i < n → p (get_or l i d) ≡ false → k ≡ i + first_where p (drop i (take n l)) → k ≡ i + 1 + first_where p (drop (i + 1)
        (take n l))
    unfolding first_where
    passed i {k} h e q =
        let q' : k ≡ i + suc (first_where p (drop (i + 1) (take n l))) = rw (met i h, e) at q in
        omega arith

    pub found : (i : ℕ) {k : ℕ} → i < n → p (get_or l i d) ≡ true → k ≡ i + first_where p (drop i (take n l)) → i ≡ k
    unfolding first_where
    found i {k} h e q =
        let q' : k ≡ i + 0 = rw (met i h, e) at q in
        omega arith

    pub unfound : (i : ℕ) {k : ℕ} → n ≤ i → k ≡ i + first_where p (drop i (take n l)) → i ≡ k
    unfolding first_where
    unfound i {k} h q =
        let q' : k ≡ i + 0 = rw (ended i h) at q in
        omega arith
