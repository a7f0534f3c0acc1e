-- Laws that proofs about Sums need.
use Rattle.std.specs.Prelude.{◌≡◌, ℕ, zero, suc, ◌+◌, ◌<◌, List, [], ◌∷◌, ◌++◌, length, take, slice_index, refl}
use Rattle.std.proofs.Common.{ap, ◌∙◌, add-one, arith, take-suc}
use Rattle.bitvec.specs.Lists.{list_of}
use Rattle.record_lines.specs.Sums.{sum_of}

pub sum-append : (a b : List ℕ) → sum_of (a ++ b) ≡ sum_of a + sum_of b
unfolding sum_of
sum-append [] b = omega arith
sum-append (x ∷ a) b = omega (arith, sum-append a b)

-- One byte more.
pub sum-one-more : (l : List ℕ) (i : ℕ) → i < length l → sum_of (take (i + 1) l) ≡ sum_of (take i l) + slice_index l i
unfolding sum_of
sum-one-more l i h = rw (add-one, take-suc l i 0 h) (sum-append (take i l) (slice_index l i ∷ []) ∙ omega arith)

pub list-one-more : (n : ℕ) (f : ℕ → ℕ) → list_of (n + 1) f ≡ list_of n f ++ (f n ∷ [])
unfolding list_of
list-one-more n f = rw add-one (go n f)
  where
    go : (m : ℕ) (g : ℕ → ℕ) → list_of (suc m) g ≡ list_of m g ++ (g m ∷ [])
    go zero g = refl
    go (suc m) g = ap (λ (l : List ℕ). g zero ∷ l) (go m (λ i. g (suc i)))

pub sum-list-more : (n : ℕ) (f : ℕ → ℕ) → sum_of (list_of (n + 1) f) ≡ sum_of (list_of n f) + f n
unfolding sum_of
sum-list-more n f = rw (list-one-more n f) (sum-append (list_of n f) (f n ∷ []) ∙ omega arith)
