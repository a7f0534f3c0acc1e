-- The passes, as the loop goes through them: no pass so far is settled, and what each way out comes to.
use Rattle.std.specs.Prelude.{Result, Ok, Err}
use Prim.Native.Nat.{ℕ, ◌+◌, ◌<◌, ◌≤◌, min}
use mathlib.Core.Path.{◌≡◌, sym, ◌∙◌}
use mathlib.Core.Bool.{Bool, true, false}
use mathlib.Core.Logic.{⊎_elim}
use native.Mathlib.Nat.{eq-or-lt_of_le}
use native.Mathlib.Omega.{arith}
use borrow.Author.Tests.{eq-eqb, ne_eqb, lt-ltb, le-ltb}
use Rattle.prelude.specs.declared.Refusal.{Refusal}
use Rattle.resolver.specs.Passes.{pass_k, last_of, settled_by}
use Rattle.resolver.specs.Ends.{Unsettled}
use Rattle.resolver.proofs.Ends.{settles, unsettled-below, K-at}
use Rattle.resolver.specs.Laws.Least.{or-past, first-from}
use Rattle.resolver.specs.declared.Resolution.{Resolution}

module _ (pass : ℕ → Bool → Result ℕ Refusal) where
  pub nor-this : (n : ℕ) {r : Result ℕ Refusal} {s : ℕ} → Unsettled pass n → r ≡ pass n false → r ≡ Ok s → s ≡ 2 → Unsettled pass (n + 1)
  nor-this n before e f t p low high =
      ⊎_elim (λ (q : p ≡ n). rw (q, sym e ∙ f, t)) (λ (g : p < n). before p low g) (eq-or-lt_of_le (let h : p ≤ n = omega arith in h))

  -- past the rows one unresolved pass stands for all
  all-unsettled : (rows n m : ℕ) → ((p : ℕ) → rows < p → pass p false ≡ pass (rows + 1) false) → n ≡ min m (rows + 2) → Unsettled pass n → Unsettled pass m
  all-unsettled rows n m same e before p low high =
      ⊎_elim (λ (q : rows + 2 ≤ p). rw (same p (omega arith)) (before (rows + 1) (omega arith) (omega arith)))
      (λ (g : p < rows + 2). before p low (omega arith))
      (or-past (rows + 2) p)

  module _ (m : ℕ) where
    pub no-limit : m ≡ 0 → {r : Resolution} → r ≡ record { settled = last_of 0 (pass 1 true); passes = 1 } → r ≡ settled_by pass m
    unfolding settled_by
    no-limit z e = rw (eq-eqb m 0 z) e

    module _ (n : ℕ) (low : 1 ≤ n) (high : n < m) (before : Unsettled pass n) {this : Result ℕ Refusal} (e : this ≡ pass n false) where
      pub refused-pass : {why : Refusal} → this ≡ Err why → record { settled = Err why; passes = n } ≡ settled_by pass m
      unfolding settled_by
      refused-pass f =
          let k : pass_k pass m ≡ n = K-at pass m n low high before (rw (sym e ∙ f)) in
          rw (ne_eqb m 0 (λ q. omega arith), k, lt-ltb n m high, sym e ∙ f)

      pub settled-pass : {s : ℕ} → this ≡ Ok s → (s ≡ 2 → ⊥) → {r : Resolution}
          → r ≡ record { settled = last_of n (pass (n + 1) true); passes = n + 1 } → r ≡ settled_by pass m
      unfolding settled_by
      settled-pass {s} f t h =
          let k : pass_k pass m ≡ n = K-at pass m n low high before (rw (sym e ∙ f, ne_eqb s 2 t)) in
          rw (ne_eqb m 0 (λ q. omega arith), k, lt-ltb n m high, sym e ∙ f) h

    pub limit-pass : (rows n : ℕ) → (m ≡ 0 → ⊥) → ((p : ℕ) → rows < p → pass p false ≡ pass (rows + 1) false) → n ≡ min m (rows + 2)
        → Unsettled pass n → {r : Resolution} → r ≡ record { settled = last_of m (pass m true); passes = m } → r ≡ settled_by pass m
    unfolding settled_by
    limit-pass rows n z same e before h =
        let k : m ≤ pass_k pass m = first-from (settles pass m) 1 m m (omega arith)
        (unsettled-below pass m m (omega arith) (all-unsettled rows n m same e before)) in
        rw (ne_eqb m 0 z, le-ltb (pass_k pass m) m k) h
