-- What an accepted layout tells: K, and the number of passes run; and that no more passes run than the limit lets.
use Rattle.std.specs.Prelude.{ℕ, ◌+◌, ◌<◌, ◌≤◌, ◌≡◌, Bool, true, false, ◌&&◌, eqb, ltb, Result, Ok}
use Rattle.prelude.specs.Pick.{pick}
use Rattle.prelude.specs.declared.Refusal.{Refusal}
use Rattle.resolver.specs.Passes.{unresolved}

-- "K when K = M and M > 0, else K + 1"
abbrev pub run_of : ℕ → ℕ → ℕ
run_of m k = pick (eqb k m && ltb 0 m) k (k + 1)

-- a pass that is resolved or stable: it ended, with a state that is not 2
abbrev pub Settles : Result ℕ Refusal → Type 0
Settles x = (s : ℕ) × (x ≡ Ok s) × (eqb s 2 ≡ false)

-- Pass k is the least that is not unresolved; the limit m is 0, and then k is, or it is 1 or more and k one of the passes 1 to m.
pub record IsK (pass : ℕ → Bool → Result ℕ Refusal) (m k : ℕ) : Type 0 where
  pub none : m ≡ 0 → k ≡ 0
  pub counted : 0 < m → 1 ≤ k
  pub within : k ≤ m
  pub before : (p : ℕ) → 1 ≤ p → p < k → unresolved (pass p false) ≡ true
  pub settled : 0 < m → Settles (pass k (eqb k m))
