-- Laws that proofs about Ends need.
use Rattle.std.specs.Prelude.{ℕ, ◌+◌, ◌<◌, ◌≤◌, max, ◌≡◌, refl, Bool, true, false, not, eqb, Result, Err, Ok}
use Rattle.std.proofs.Common.{◌∙◌, arith, eq-eqb, ne_eqb, eqb-true}
use Rattle.prelude.specs.Laws.Bools.{unlike}
use Rattle.prelude.specs.declared.Refusal.{Refusal}
use Rattle.resolver.specs.Laws.Least.{first-at, first-from}
use Rattle.resolver.specs.Theorems.Least.{K-counts, K-settles}
use Rattle.resolver.specs.Passes.{unresolved, pass_k, last_of, after_k, settled_by}
use Rattle.resolver.proofs.Run.{at_zero, K-below, K-not-below, by-ways, unresolved-before}
use Rattle.resolver.specs.declared.Resolution.{Resolution}
use Rattle.resolver.specs.Ends.{RunsBefore, RunsLast, SettlesBelow, Unsettled, after, at_limit}

module _ (pass : ℕ → Bool → Result ℕ Refusal) where
  module _ (m : ℕ) where
    -- what pass K is looked for by
    abbrev pub settles : ℕ → Bool
    settles n = not (unresolved (pass n (eqb n m)))

    pub unsettled-below : (n : ℕ) → n ≤ m → (Unsettled pass) n → (p : ℕ) → 1 ≤ p → p < n → settles p ≡ false
    unsettled-below n h before p low high = rw (ne_eqb p m (λ q. omega arith), before p low high)

    -- the pass below the limit that is the first not to be unresolved is pass K
    pub K-at : (n : ℕ) → 1 ≤ n → n < m → (Unsettled pass) n → unresolved (pass n false) ≡ false → pass_k pass m ≡ n
    K-at n low high before e =
        first-at settles 1 m n low (omega arith) (unsettled-below n (omega arith) before) (rw (ne_eqb n m (λ q. omega arith), e))

    -- a pass that is refused before the last ends the passes
    pub refused-before : (n : ℕ) {why : Refusal} → (RunsBefore pass) m n → pass n false ≡ Err why
        → settled_by pass m ≡ record { settled = Err why; passes = n }
    refused-before n r e =
        let low = r.counted in
        let high = r.below in
        let k : pass_k pass m ≡ n = K-at n low high r.unsettled (rw e) in
        K-below pass m (omega arith) (rw k high) ∙ rw (k, e)

    -- pass k + 1, run as the last
    pub settled-below : (k : ℕ) → (SettlesBelow pass) m k → settled_by pass m ≡ record { settled = last_of k (pass (k + 1) true); passes = k + 1 }
    settled-below k r =
        let low = r.runs.counted in
        let high = r.runs.below in
        let is : pass_k pass m ≡ k = K-at k low high r.runs.unsettled (rw r.settles.1 r.settles.2) in
        K-below pass m (omega arith) (rw is high) ∙ rw (is, r.settles.1)

    -- pass M, run as the last, or pass 1 where M = 0
    pub settled-limit : (n : ℕ) → n ≡ max 1 m → (Unsettled pass) n → settled_by pass m ≡ record { settled = last_of m (pass n true); passes = n }
    settled-limit n e before = go (eqb m 0) refl
      where
        go : (t : Bool) → eqb m 0 ≡ t → settled_by pass m ≡ record { settled = last_of m (pass n true); passes = n }
        go true f =
            let z = eqb-true m 0 f in
            let one : n ≡ 1 = omega arith in
            at_zero pass m z ∙ rw (one, z)
        go false f =
            let no : m ≡ 0 → ⊥ = λ q. zero-clash q f in
            let some : 0 < m = omega arith in
            let same : n ≡ m = omega arith in
            let k : m ≤ pass_k pass m = first-from settles 1 m m (omega arith) (unsettled-below m (omega arith) (rw same at before)) in
            K-not-below pass m some k ∙ rw same
          where
            zero-clash : m ≡ 0 → eqb m 0 ≡ false → ⊥
            zero-clash q f = let h : true ≡ false = rw (eq-eqb m 0 q) at f in unlike cc

    -- What the last pass comes to is what the layout comes to, with some K, and its number is the number of passes run.
    pub last-decides : (n : ℕ) → (RunsLast pass) m n → (k : ℕ) × (settled_by pass m ≡ record { settled = last_of k (pass n true); passes = n })
    last-decides n (after k r e) = (k, rw e (settled-below k r))
    last-decides n (at_limit e before) = (m, settled-limit n e before)

    -- The two ways in which the passes end: a pass before the last is refused, or the last one decides.
    pub data Ending (r : Resolution) : Type 0 where
      early : (n : ℕ) (why : Refusal) → (RunsBefore pass) m n → pass n false ≡ Err why → r ≡ record { settled = Err why; passes = n } → Ending r
      last : (n k : ℕ) → (RunsLast pass) m n → r ≡ record { settled = last_of k (pass n true); passes = n } → Ending r

    before-limit : (k : ℕ) → k ≤ pass_k pass m → k ≤ m → (Unsettled pass) k
    before-limit k h g p low high = unresolved-before pass m p low (omega arith) (omega arith)

    ending-below : 0 < m → pass_k pass m < m → (x : Result ℕ Refusal) → pass (pass_k pass m) false ≡ x → unresolved x ≡ false → Ending (after_k pass (pass_k pass m) x)
    ending-below some less (Err why) e u =
        early (pass_k pass m) why (record
        { counted = K-counts pass m; below = less; unsettled = before-limit (pass_k pass m) (omega arith) (omega arith) }) e refl
    ending-below some less (Ok s) e u =
        last (pass_k pass m + 1) (pass_k pass m)
        (after (pass_k pass m) (record {
          runs = record { counted = K-counts pass m; below = less; unsettled = before-limit (pass_k pass m) (omega arith) (omega arith) };
          settles = (s, e, u);
        }) refl)
        refl

    K-open : pass_k pass m < m → unresolved (pass (pass_k pass m) false) ≡ false
    K-open less = rw (ne_eqb (pass_k pass m) m (λ q. omega arith)) at (K-settles pass m (omega arith))

    pub ends : Ending (settled_by pass m)
    ends =
        by-ways pass m Ending
        (λ z. last 1 0 (at_limit (omega arith) (λ p. λ low. λ high. absurd (let b : ⊥ = omega arith in b))) refl)
        (λ some. λ less. ending-below some less (pass (pass_k pass m) false) refl (K-open less))
        (λ some. λ least. last m m (at_limit (omega arith) (before-limit m least (omega arith))) refl)
