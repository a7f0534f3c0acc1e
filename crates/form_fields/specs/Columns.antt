-- Things that stand one behind the other in a file, each as long as the next: their length, one thing more, and how a loop fills a list from
-- its front with them.
use Rattle.std.specs.Prelude.{List, [], ◌∷◌, ℕ, zero, suc, ◌+◌}

-- What `read` reads at `at` and at each `step` bytes further, `n` times.
unfoldable pub column : {A : Type 0} → (ℕ → A) → ℕ → ℕ → ℕ → List A
column read step at zero = []
column read step at (suc n) = read at ∷ column read step (at + step) n
