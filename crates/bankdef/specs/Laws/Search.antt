-- Laws that proofs about Search need.
use Rattle.std.specs.Prelude.{◌≡◌, Bool, true, length, get_or}
use mathlib.Core.List.{List, [], ◌∷◌}
use Prim.Native.Nat.{ℕ, zero, suc, ◌≤◌, ◌<◌}
use native.Mathlib.Omega.{arith}
use Rattle.std.proofs.Common.{lt-ltb}
use Rattle.prelude.specs.Laws.Bools.{either}
use Rattle.bankdef.specs.Search.{first_where, some_where}

module _ {A : Type 0} (p : A → Bool) (d : A) where
  -- An element that passes is not before the first.
  pub not-before : (l : List A) (k : ℕ) → k < length l → p (get_or l k d) ≡ true → first_where p l ≤ k
  unfolding first_where
  not-before [] k h e = omega arith
  not-before (a ∷ l) zero h e = rw e (omega arith)
  not-before (a ∷ l) (suc k) h e =
      let later = not-before l k (omega arith) e in
      either (p a) (λ t. rw t (omega arith)) (λ t. rw t (omega arith))

  -- So where one passes, there is a first,
  pub some : (l : List A) (k : ℕ) → k < length l → p (get_or l k d) ≡ true → some_where p l ≡ true
  some l k h e = lt-ltb (first_where p l) (length l) (omega (arith, not-before l k h e))

  -- and the first passes.
  pub first_passes : (l : List A) → first_where p l < length l → p (get_or l (first_where p l) d) ≡ true
  unfolding first_where
  first_passes [] h = absurd (omega arith)
  first_passes (a ∷ l) h =
      either (p a) (λ t. rw t t) (λ t. rw t (first_passes l (let h' : suc (first_where p l) < suc (length l) = rw t at h in omega arith)))
