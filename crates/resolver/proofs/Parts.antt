-- Which pass reads which rows.
use Rattle.std.specs.Prelude.{Result}
use Rattle.prelude.specs.declared.Refusal.{Refusal}
use Prim.Native.Nat.{ℕ, ◌-◌, ◌≤◌, ◌<◌, min}
use mathlib.Core.Path.{◌≡◌, sym, ◌∙◌}
use mathlib.Core.List.{List, []}
use mathlib.Core.Bool.{Bool, false}
use mathlib.Core.Logic.{⊎_elim}
use native.Mathlib.Omega.{arith}
use lib.Dec.{eqb}
use lib.ListN.{length}
use borrow.Author.Tests.{ne_eqb}
use Rattle.bankdef.specs.declared.Bankdefs.{Bankdefs}
use Rattle.nodes.specs.Lists.{lists, row_of}
use Rattle.resolver.specs.Once.{program_with}
use Rattle.resolver.specs.Laws.Least.{or-past}
use Rattle.resolver.specs.OneWalk.{in_doubt}
use Rattle.resolver.specs.Passes.{pass_over, pass_at}
use Rattle.resolver.specs.Theorems.OneWalk.{told-alone}

-- pass 1 reads the first row, and so does a pass 0
first-row : (k rows : ℕ) → k ≡ 1 → min k rows - 1 ≡ 0
first-row k rows one = omega arith

row_before : (k rows : ℕ) → k ≡ 1 → min (k - 1) rows - 1 ≡ 0
row_before k rows one = omega arith

-- where a pass and the pass before it read two rows, it is not pass 1
not_first : (k rows : ℕ) {x y : ℕ} → x ≡ min k rows - 1 → y ≡ min (k - 1) rows - 1 → (x ≡ y → ⊥) → eqb k 1 ≡ false
not_first k rows p q apart = ne_eqb k 1 (λ one. apart (p ∙ first-row k rows one ∙ sym (q ∙ row_before k rows one)))

-- within the rows the pass before reads the row ahead, and past them the same one
one-ahead : (k rows : ℕ) → k ≤ rows → min k rows - 1 - 1 ≡ min (k - 1) rows - 1
one-ahead k rows h = let a : min k rows ≡ k = omega arith in let b : min (k - 1) rows ≡ k - 1 = omega arith in rw (a, b)

one-row : (k rows : ℕ) → rows < k → min k rows - 1 ≡ min (k - 1) rows - 1
one-row k rows h = let a : min k rows ≡ rows = omega arith in let b : min (k - 1) rows ≡ rows = omega arith in rw (a, b)

-- so of two rows the other is the one ahead
row-ahead : (k rows : ℕ) {x y : ℕ} → x ≡ min k rows - 1 → y ≡ min (k - 1) rows - 1 → (x ≡ y → ⊥) → x - 1 ≡ min (k - 1) rows - 1
row-ahead k rows p q apart =
    ⊎_elim (λ (h : k ≤ rows). rw p (one-ahead k rows h)) (λ (h : rows < k). absurd (apart (p ∙ one-row k rows h ∙ sym q))) (or-past k rows)

-- a pass over those rows is the pass that reads them: pass k reads row x, and the pass before it row y
module _ (banks : Bankdefs) (kinds operands numbers states : List ℕ) (rows k : ℕ) (is_last : Bool) {x y : ℕ} {v : Result ℕ Refusal} (p : x ≡ min k rows - 1)
    (q : y ≡ min (k - 1) rows - 1) where
  -- where they read two
  pub row-beside : (x ≡ y → ⊥) → v ≡ pass_over banks kinds operands numbers states x (x - 1) (eqb k 1) is_last
      → v ≡ pass_at banks (lists kinds operands numbers states rows []) k is_last
  row-beside apart e = rw (← p, ← (row-ahead k rows p q apart)) e

  -- and the walk of the one row may tell it
  pub row_told : (x ≡ y → ⊥) → v ≡ pass_over banks kinds operands numbers states x x (eqb k 1) is_last → in_doubt v ≡ false
      → v ≡ pass_at banks (lists kinds operands numbers states rows []) k is_last
  row_told apart e sure =
      let n = length kinds in
      let later = not_first k rows p q apart in
      let own : v ≡ pass_over banks kinds operands numbers states x x false is_last = rw later at e in
      let told : v ≡ pass_over banks kinds operands numbers states x (x - 1) false is_last =
      told-alone (program_with banks kinds operands (row_of n numbers states 0).numbers) (row_of n numbers states x) (row_of n numbers states (x - 1)) is_last v own
      sure in
      row-beside apart (rw later told)
