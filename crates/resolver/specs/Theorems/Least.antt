-- Pass K is the least pass that is not unresolved, where the limit lets one be found.
use Rattle.std.specs.Prelude.{ℕ, ◌<◌, ◌≤◌, ◌≡◌, Bool, true, false, not, eqb, Result}
use Rattle.std.proofs.Common.{arith}
use Rattle.std.proofs.lemmas.Bool.{not-true, not-false}
use Rattle.prelude.specs.declared.Refusal.{Refusal}
use Rattle.resolver.specs.Passes.{pass_k, unresolved}
use Rattle.resolver.specs.Laws.Least.{first_found, first-least, first-low}

-- Pass K of a limit, where `pass n is_last` is what pass n comes to.
module _ (pass : ℕ → Bool → Result ℕ Refusal) (m : ℕ) where
  -- every pass before K is unresolved
  pub before-K : (p : ℕ) → 1 ≤ p → p < pass_k pass m → unresolved (pass p (eqb p m)) ≡ true
  before-K p low high = not-false (unresolved (pass p (eqb p m))) (first-least (λ n. not (unresolved (pass n (eqb n m)))) 1 m p low high)

  -- K is not, where it is within the limit
  pub K-settles : pass_k pass m ≤ m → unresolved (pass (pass_k pass m) (eqb (pass_k pass m) m)) ≡ false
  K-settles h = not-true (unresolved (pass (pass_k pass m) (eqb (pass_k pass m) m))) (first_found (λ n. not (unresolved (pass n (eqb n m)))) 1 m (omega arith))

  -- K is a pass: they are counted from 1
  pub K-counts : 1 ≤ pass_k pass m
  K-counts = first-low (λ n. not (unresolved (pass n (eqb n m)))) 1 m
