-- Laws that Theorems/Run rests on.
use Rattle.std.specs.Prelude.{ℕ, ◌+◌, ◌≡◌, refl, Bool, true, false, eqb, Err, Ok, Result}
use Rattle.std.proofs.Common.{arith}
use Rattle.prelude.specs.Pick.{pick}
use Rattle.prelude.specs.declared.Refusal.TheVariants.{Unresolved}
use Rattle.prelude.specs.declared.Refusal.{Refusal}
use Rattle.resolver.specs.Passes.{unresolved, last_of, after_k}
use Rattle.resolver.specs.Run.{Settles}

-- a last pass that settles is not unresolved
kept_at : (k : ℕ) (t : Bool) {j : ℕ} → pick t (Err Unresolved) (Ok k) ≡ Ok j → (j ≡ k) × (t ≡ false)
kept_at k true e = (cc, cc)
kept_at k false e = (cc, refl)

pub last-at : (k : ℕ) (x : Result ℕ Refusal) {j : ℕ} → last_of k x ≡ Ok j → (j ≡ k) × Settles x
last-at k (Ok s) e = let h = kept_at k (eqb s 2) e in (h.0, (s, refl, h.1))
last-at k (Err why) e = (cc, absurd (let z : ◌≡◌ {A = ℕ} 0 1 = cc in let b : ⊥ = omega arith in b))

pub after-at : (pass : ℕ → Bool → Result ℕ Refusal) (k : ℕ) (x : Result ℕ Refusal) {j : ℕ} → unresolved x ≡ false → (after_k pass k x).settled ≡ Ok j
    → (j ≡ k) × ((after_k pass k x).passes ≡ k + 1) × Settles (pass (k + 1) true) × Settles x
after-at pass k (Ok s) n e = let h = last-at k (pass (k + 1) true) e in (h.0, refl, h.1, (s, refl, n))
after-at pass k (Err why) n e = absurd (let z : ◌≡◌ {A = ℕ} 0 1 = cc in let b : ⊥ = omega arith in b)
