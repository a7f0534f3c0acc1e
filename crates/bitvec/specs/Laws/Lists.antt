-- Laws that proofs about Lists need.
use Rattle.std.specs.Prelude.{◌≡◌, refl, List, [], ◌∷◌, ◌++◌, ℕ, zero, suc, ◌+◌, ◌<◌, length, get_or, set, drop}
use Rattle.std.proofs.Common.{ap, not-suc-le-zero, le_of_suc-le-suc, add-one}
use Rattle.bitvec.specs.Lists.{list_of}

pub length-list_of : (n : ℕ) (f : ℕ → ℕ) → length (list_of n f) ≡ n
unfolding list_of
length-list_of zero f = refl
length-list_of (suc n) f = ap suc (length-list_of n (λ i. f (suc i)))

pub get_d-list_of : (n : ℕ) (f : ℕ → ℕ) (i : ℕ) → i < n → get_or (list_of n f) i 0 ≡ f i
unfolding list_of
get_d-list_of zero f i h = absurd (not-suc-le-zero h)
get_d-list_of (suc n) f zero h = refl
get_d-list_of (suc n) f (suc i) h = get_d-list_of n (λ j. f (suc j)) i (le_of_suc-le-suc h)

-- A store of the next element, where the list stands at the front of another.
pub list_of-more : (n : ℕ) (f : ℕ → ℕ) (d : List ℕ) → n < length d → set (list_of n f ++ drop n d) n (f n) ≡ list_of (n + 1) f ++ drop (n + 1) d
unfolding list_of
list_of-more n f d h = rw add-one (go n f d h)
  where
    go : (m : ℕ) (g : ℕ → ℕ) (e : List ℕ) → m < length e → set (list_of m g ++ drop m e) m (g m) ≡ list_of (suc m) g ++ drop (suc m) e
    go m g [] l = absurd (not-suc-le-zero l)
    go zero g (x ∷ e) l = refl
    go (suc m) g (x ∷ e) l = ap (λ (t : List ℕ). g zero ∷ t) (go m (λ i. g (suc i)) e (le_of_suc-le-suc l))
