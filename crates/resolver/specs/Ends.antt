-- How the passes end: which passes run, which of them is the last, and what the layout comes to by them (document 01, "Passes").
use Rattle.std.specs.Prelude.{ℕ, ◌+◌, ◌<◌, ◌≤◌, max, ◌≡◌, Bool, true, false, Result}
use Rattle.prelude.specs.declared.Refusal.{Refusal}
use Rattle.resolver.specs.Passes.{unresolved}
use Rattle.resolver.specs.Run.{Settles}

module _ (pass : ℕ → Bool → Result ℕ Refusal) where
  -- every pass before n is unresolved
  abbrev pub Unsettled : ℕ → Type 0
  Unsettled n = (p : ℕ) → 1 ≤ p → p < n → unresolved (pass p false) ≡ true

  -- "passes 1, 2, .. run until one is not unresolved": pass n runs below the limit m, and is not the last
  pub record RunsBefore (m n : ℕ) : Type 0 where
    pub counted : 1 ≤ n
    pub below : n < m
    pub unsettled : Unsettled n

  -- "If K is below M, pass K + 1 runs as the last": k is such a K
  pub record SettlesBelow (m k : ℕ) : Type 0 where
    pub runs : RunsBefore m k
    pub settles : Settles (pass k false)

  -- Pass n runs as the last: pass K + 1, or pass M where no pass below M is K; "M = 0 runs pass 1 as the last".
  pub data RunsLast (m n : ℕ) : Type 0 where
    after : (k : ℕ) → SettlesBelow m k → n ≡ k + 1 → RunsLast m n
    at_limit : n ≡ max 1 m → Unsettled n → RunsLast m n

  -- pass n runs, as the last one or not
  abbrev pub Runs : ℕ → ℕ → Bool → Type 0
  Runs m n true = RunsLast m n
  Runs m n false = RunsBefore m n
