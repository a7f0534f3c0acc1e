-- Laws that Theorems/PageFacts rests on.
use Rattle.std.specs.Prelude.{ℕ, zero, suc, ◌≡◌, refl, List, [], ◌∷◌, ◌++◌, map, get_or, replicate}

none_left : (m k x : ℕ) → get_or (replicate m x) k x ≡ x
none_left zero k x = refl
none_left (suc m) zero x = refl
none_left (suc m) (suc k) x = none_left m k x

module _ {A : Type 0} (f : A → ℕ) (d : A) (m : ℕ) where
  pub each_of : (l : List A) (k : ℕ) → get_or (map f l ++ replicate m (f d)) k (f d) ≡ f (get_or l k d)
  each_of [] k = none_left m k (f d)
  each_of (a ∷ l) zero = refl
  each_of (a ∷ l) (suc k) = each_of l k
