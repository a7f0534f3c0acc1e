-- A list by its elements: the list of n elements f 0, f 1, .. f (n - 1).
use Rattle.std.specs.Prelude.{List, [], ◌∷◌, ℕ, zero, suc}

unfoldable pub list_of : ℕ → (ℕ → ℕ) → List ℕ
list_of zero f = []
list_of (suc n) f = f zero ∷ list_of n (λ i. f (suc i))
