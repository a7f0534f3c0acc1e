-- Theorems about what Run defines.
use Rattle.std.specs.Prelude.{ℕ, ◌+◌, ◌<◌, ◌≤◌, max, ◌≡◌, refl, Bool, true, false, eqb, ltb, Result, Ok, Err}
use Rattle.std.proofs.Common.{◌∙◌, arith}
use Rattle.prelude.specs.declared.Refusal.{Refusal}
use borrow.Author.Tests.{eq-eqb, ne_eqb, lt-ltb, le-ltb, eqb-true, eqb-false, ltb-true, ltb-false}
use Rattle.resolver.specs.Theorems.Least.{before-K, K-settles, K-counts}
use Rattle.resolver.specs.Passes.{unresolved, pass_k, last_of, after_k, settled_by}
use Rattle.resolver.specs.declared.Resolution.{Resolution}
use Rattle.resolver.specs.Laws.Run.{after-at, last-at}
use Rattle.resolver.specs.Run.{IsK, Settles, run_of}

after-runs : (pass : ℕ → Bool → Result ℕ Refusal) (k : ℕ) (x : Result ℕ Refusal) → (k ≤ (after_k pass k x).passes) × ((after_k pass k x).passes ≤ k + 1)
after-runs pass k (Ok s) = (omega arith, omega arith)
after-runs pass k (Err why) = (omega arith, omega arith)

-- the three ways in which the passes can go
module _ (pass : ℕ → Bool → Result ℕ Refusal) (m : ℕ) where
  -- M = 0
  pub at_zero : m ≡ 0 → settled_by pass m ≡ record { settled = last_of 0 (pass 1 true); passes = 1 }
  unfolding settled_by
  at_zero z = rw (eq-eqb m 0 z)

  -- K is below M
  pub K-below : 0 < m → pass_k pass m < m → settled_by pass m ≡ after_k pass (pass_k pass m) (pass (pass_k pass m) false)
  unfolding settled_by
  K-below h g = rw (ne_eqb m 0 (λ q. omega arith), lt-ltb (pass_k pass m) m g)

  -- K is M, or there is none
  pub K-not-below : 0 < m → m ≤ pass_k pass m → settled_by pass m ≡ record { settled = last_of m (pass m true); passes = m }
  unfolding settled_by
  K-not-below h g = rw (ne_eqb m 0 (λ q. omega arith), le-ltb (pass_k pass m) m g)

  -- one of the three, for any property of what they come to
  pub by-ways : (P : Resolution → Type 0) → (m ≡ 0 → P (record { settled = last_of 0 (pass 1 true); passes = 1 }))
      → (0 < m → pass_k pass m < m → P (after_k pass (pass_k pass m) (pass (pass_k pass m) false))) →
      (0 < m → m ≤ pass_k pass m → P (record { settled = last_of m (pass m true); passes = m })) → P (settled_by pass m)
  by-ways P a b d = go (eqb m 0) refl (ltb (pass_k pass m) m) refl
    where
      go : (s : Bool) → eqb m 0 ≡ s → (t : Bool) → ltb (pass_k pass m) m ≡ t → P (settled_by pass m)
      go true e t f = let z = eqb-true m 0 e in rw (at_zero z) (a z)
      go false e true f =
          let n = eqb-false m 0 e in
          let h : 0 < m = omega arith in
          let g = ltb-true (pass_k pass m) m f in
          rw (K-below h g) (b h g)
      go false e false f =
          let n = eqb-false m 0 e in
          let h : 0 < m = omega arith in
          let g = ltb-false (pass_k pass m) m f in
          rw (K-not-below h g) (d h g)

  -- what an accepted layout tells
  abbrev pub Counted : ℕ → Resolution → Type 0
  Counted k r = IsK pass m k × (r.passes ≡ run_of m k) × Settles (pass r.passes true)

  pub unresolved-before : (p : ℕ) → 1 ≤ p → p < pass_k pass m → p < m → unresolved (pass p false) ≡ true
  unresolved-before p low high less = rw (ne_eqb p m (λ q. omega arith)) at (before-K pass m p low high)

  zero-told : m ≡ 0 → (k : ℕ) → last_of 0 (pass 1 true) ≡ Ok k → Counted k (record { settled = last_of 0 (pass 1 true); passes = 1 })
  zero-told z k e =
      let h = last-at 0 (pass 1 true) e in
      let n = h.0 in (
        record {
          none = λ q. n;
          counted = λ q. omega arith;
          within = omega arith;
          before = λ p. λ low. λ high. absurd (let b : ⊥ = omega arith in b);
          settled = λ q. absurd (let b : ⊥ = omega arith in b);
        },
        rw (n, z),
        h.1,
      )

  below-told : 0 < m → pass_k pass m < m → (k : ℕ) → (after_k pass (pass_k pass m) (pass (pass_k pass m) false)).settled ≡ Ok k
      → Counted k (after_k pass (pass_k pass m) (pass (pass_k pass m) false))
  below-told some less k e =
      let other : eqb (pass_k pass m) m ≡ false = ne_eqb (pass_k pass m) m (λ q. omega arith) in
      let h = after-at pass (pass_k pass m) (pass (pass_k pass m) false) (rw other at (K-settles pass m (omega arith))) e in
      let n = h.0 in (
        record {
          none = λ q. omega arith;
          counted = λ q. omega (arith, K-counts pass m);
          within = omega arith;
          before = λ p. λ low. λ high. unresolved-before p low (omega arith) (omega arith);
          settled = λ q. rw (n, other) h.3;
        },
        h.1 ∙ rw (n, other),
        rw h.1 h.2,
      )

  limit-told : 0 < m → m ≤ pass_k pass m → (k : ℕ) → last_of m (pass m true) ≡ Ok k → Counted k (record { settled = last_of m (pass m true); passes = m })
  limit-told some least k e =
      let h = last-at m (pass m true) e in
      let n = h.0 in (
        record {
          none = λ q. omega arith;
          counted = λ q. omega arith;
          within = omega arith;
          before = λ p. λ low. λ high. unresolved-before p low (omega arith) (omega arith);
          settled = λ q. rw (n, eq-eqb m m refl) h.1;
        },
        rw (n, eq-eqb m m refl, lt-ltb 0 m some),
        h.1,
      )

  -- An accepted layout: K is the least pass that is not unresolved, the passes run are "K when K = M and M > 0, else K + 1", and the last of
  -- them was not unresolved.
  pub accepted-passes : (k : ℕ) → (settled_by pass m).settled ≡ Ok k → Counted k (settled_by pass m)
  accepted-passes =
      by-ways (λ r. (k : ℕ) → r.settled ≡ Ok k → Counted k r) (λ z. zero-told z) (λ some. λ less. below-told some less)
      (λ some. λ least. limit-told some least)

  -- A pass is run, and no more are than "the larger of 1 and the limit", refused layouts included.
  pub passes-bounded : (1 ≤ (settled_by pass m).passes) × ((settled_by pass m).passes ≤ max 1 m)
  passes-bounded =
      by-ways (λ r. (1 ≤ r.passes) × (r.passes ≤ max 1 m)) (λ z. (omega arith, omega arith))
      (λ some. λ less. let h = after-runs pass (pass_k pass m) (pass (pass_k pass m) false) in let c = K-counts pass m in (omega arith, omega arith))
      (λ some. λ least. (omega arith, omega arith))
