-- Laws that Theorems/LabelStates rests on.
use Rattle.std.specs.Prelude.{ℕ, ◌%◌, ◌≡◌, refl, Bool, true, false, not, ◌&&◌, eqb, Result, Ok, Err}
use Rattle.std.proofs.Common.{arith, eq-eqb, eqb-true}
use Rattle.prelude.specs.Pick.{pick}
use Rattle.prelude.specs.Laws.Bools.{both, unlike}
use Rattle.prelude.specs.declared.Refusal.{Refusal}
use Rattle.bankdef.specs.declared.Bankdef.{Bankdef}
use Rattle.iter.specs.Address.{on_boundary}
use Rattle.iter.specs.declared.Pos.{Pos}
use Rattle.resolver.specs.Theorems.Labels.{same_address_lem, address_same}
use Rattle.resolver.specs.Once.{same_address}
use Rattle.resolver.specs.LabelStates.{KnownOnBoundary, SameAddress}

pub settled-told : (def : Bankdef) (now : Pos) → (now.known && on_boundary def now.position) ≡ true → KnownOnBoundary def now
settled-told def now e =
    let a = both now.known (on_boundary def now.position) e in (a.0, eqb-true (now.position % def.unit) 0 a.1)

pub told-settled : (def : Bankdef) (now : Pos) → KnownOnBoundary def now → (now.known && on_boundary def now.position) ≡ true
told-settled def now h = rw h.0 (eq-eqb (now.position % def.unit) 0 h.1)

pub same-told : (def : Bankdef) (now : Pos) (before : Result Pos Refusal) → same_address def now before ≡ true → SameAddress def now before
same-told def now (Ok was) e = (was, refl, same_address_lem def now was e)
same-told def now (Err why) e = absurd (let z : ◌≡◌ {A = ℕ} 0 1 = cc in let b : ⊥ = omega arith in b)

pub told_same : (def : Bankdef) (now : Pos) (before : Result Pos Refusal) → SameAddress def now before → same_address def now before ≡ true
told_same def now before h = rw h.1 (address_same def now h.0 h.2)

-- ---- the three states

pub resolved-of : (t u : Bool) → ◌≡◌ {A = ℕ} (pick t 0 (pick u 1 2)) 0 → t ≡ true
resolved-of true u e = refl
resolved-of false true e = absurd (let b : ⊥ = omega arith in b)
resolved-of false false e = absurd (let b : ⊥ = omega arith in b)

pub stable-of : (t u : Bool) → ◌≡◌ {A = ℕ} (pick t 0 (pick u 1 2)) 1 → (t ≡ false) × (u ≡ true)
stable-of true u e = absurd (let b : ⊥ = omega arith in b)
stable-of false true e = (refl, refl)
stable-of false false e = absurd (let b : ⊥ = omega arith in b)

pub not-held : (t : Bool) → (t ≡ true → ⊥) → t ≡ false
not-held true h = absurd (h refl)
not-held false h = refl

pub not_first : (n : ℕ) → not (eqb n 1) ≡ true → n ≡ 1 → ⊥
not_first n e q = let h : not true ≡ true = rw (eq-eqb n 1 q) at e in unlike cc
