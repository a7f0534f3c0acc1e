-- A number put into an array by the definition, place by place.
use Rattle.std.specs.Prelude.{◌≡◌, List, ◌∷◌, ◌++◌, length, take, drop}
use Rattle.std.proofs.Common.{ap, ◌∙◌, length-append, length-drop, length-take-le, get_or-drop, get_or-append-add}
use Rattle.std.proofs.Math.Path.{subst}
use Prim.Native.Nat.{ℕ, suc, ◌+◌, ◌-◌, ◌≤◌, ◌<◌}
use native.Mathlib.Omega.{arith}
use Rattle.std.proofs.Math.ListN.{get_or, get_or-append, length-take}
use Rattle.std.proofs.Math.Seq.{get_or-take, get_or_at}
use Rattle.overlap_checker.specs.Lent.{put_in}
use Rattle.overlap_checker.specs.Laws.Shift.{moved}
use Rattle.overlap_checker.proofs.Kept.{moved-put}
use Rattle.says.specs.Store.{Put}

-- past the front of a list
behind : (f r : List ℕ) (k i : ℕ) → length f ≡ k → k ≤ i → get_or (f ++ r) i 0 ≡ get_or r (i - k) 0
behind f r k i e h =
    let at : i ≡ length f + (i - k) = omega arith in
    ap (λ (n : ℕ). get_or (f ++ r) n 0) at ∙ get_or-append-add f r (i - k) 0

module _ (xs : List ℕ) (n k x : ℕ) (low : k ≤ n) (room : n < length xs) where
  abbrev mid : List ℕ
  mid = take (n - k) (drop k xs)

  abbrev rest : List ℕ
  rest = mid ++ drop (suc n) xs

  front : length (take k xs) ≡ k
  front = length-take-le k xs (omega arith)

  middle : length mid ≡ n - k
  middle = length-take-le (n - k) (drop k xs) (rw length-drop (omega arith))

  -- behind the number
  next : (i : ℕ) → k ≤ i → get_or (take k xs ++ x ∷ rest) (suc i) 0 ≡ get_or rest (i - k) 0
  next i h =
      let at : suc i - k ≡ suc (i - k) = omega arith in
      behind (take k xs) (x ∷ rest) k (suc i) front (omega arith) ∙ ap (λ (j : ℕ). get_or (x ∷ rest) j 0) at

  later : (i : ℕ) → k ≤ i → i < n → get_or (take k xs ++ x ∷ rest) (suc i) 0 ≡ get_or xs i 0
  later i h m =
      let at : k + (i - k) ≡ i = omega arith in
      next i h
      ∙ get_or-append mid (drop (suc n) xs) 0 (i - k) (omega (arith, middle))
      ∙ get_or-take (n - k) (drop k xs) (i - k) 0 (omega arith)
      ∙ get_or-drop k xs (i - k) 0
      ∙ ap (λ (j : ℕ). get_or xs j 0) at

  past : (i : ℕ) → n ≤ i → get_or (take k xs ++ x ∷ rest) (suc i) 0 ≡ get_or xs (suc i) 0
  past i h =
      let at : suc n + ((i - k) - (n - k)) ≡ suc i = omega arith in
      next i (omega arith)
      ∙ behind mid (drop (suc n) xs) (n - k) (i - k) middle (omega arith)
      ∙ get_or-drop (suc n) xs ((i - k) - (n - k)) 0
      ∙ ap (λ (j : ℕ). get_or xs j 0) at

  moved-meets : Put n k x xs (moved xs n k x)
  unfolding moved
  moved-meets =
      record {
        as_long = simp (length-append, length-take, length-drop) (omega arith);
        before = λ i h. get_or-append (take k xs) (x ∷ rest) 0 i (omega (arith, front)) ∙ get_or-take k xs i 0 h;
        there = get_or_at (take k xs) x rest 0 k front;
        later = later;
        past = λ i h. let at : suc (i - 1) ≡ i = omega arith in
            subst (λ (j : ℕ). get_or (take k xs ++ x ∷ rest) j 0 ≡ get_or xs j 0) at (past (i - 1) (omega arith));
      }

  pub put_meets : Put n k x xs (put_in xs n k x)
  put_meets = subst (Put n k x xs) (moved-put xs n k x low (omega arith)) moved-meets
