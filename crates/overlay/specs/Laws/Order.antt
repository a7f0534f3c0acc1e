-- Laws that Theorems/Order rests on.
use Rattle.std.specs.Prelude.{◌≡◌, refl, List, [], ◌∷◌, ℕ, zero, suc, ◌+◌, ◌≤◌, ◌<◌, ltb, leb, length, get_or}
use mathlib.Core.Bool.{Bool, true, false, ◌&&◌, and-eq-true_iff}
use Rattle.std.proofs.Common.{arith, ltb-true, leb-true, lt-ltb, le-leb}
use Rattle.overlay.specs.Order.{in_order}

-- The same by index.
pub record Row (floor : ℕ) (os ss : List ℕ) : Type 0 where
  pub paired : length os ≡ length ss
  pub some : (i : ℕ) → i < length os → 0 < get_or ss i 0
  pub above : (i : ℕ) → i < length os → floor ≤ get_or os i 0
  pub behind : (i j : ℕ) → i < j → j < length os → get_or os i 0 + get_or ss i 0 ≤ get_or os j 0

pub row : (floor : ℕ) (os ss : List ℕ) → in_order floor os ss ≡ true → Row floor os ss
unfolding in_order
row floor [] [] e =
    record { paired = refl; some = λ i h. absurd (omega arith); above = λ i h. absurd (omega arith); behind = λ i j l h. absurd (omega arith) }
row floor [] (s ∷ ss) e = let z : ◌≡◌ {A = Bool} true false = cc in absurd (mathlib.Core.Bool.true≢false z)
row floor (o ∷ os) [] e = let z : ◌≡◌ {A = Bool} true false = cc in absurd (mathlib.Core.Bool.true≢false z)
row floor (o ∷ os) (s ∷ ss) e =
    let one = (and-eq-true_iff (ltb 0 s) (leb floor o && in_order (o + s) os ss)).0 e in
    let two = (and-eq-true_iff (leb floor o) (in_order (o + s) os ss)).0 one.1 in
    let nonempty = ltb-true 0 s one.0 in
    let starts = leb-true floor o two.0 in
    let r = row (o + s) os ss two.1 in
    record {
      paired = rw r.paired;
      some = λ i. elim i as (λ i. i < length (o ∷ os) → 0 < get_or (s ∷ ss) i 0) [ zero ↦ λ h. nonempty | suc j ↦ λ h. r.some j (omega arith) ];
      above = λ i. elim i as (λ i. i < length (o ∷ os) → floor ≤ get_or (o ∷ os) i 0)
          [ zero ↦ λ h. starts | suc j ↦ λ h. omega (arith, r.above j (omega arith)) ];
      behind = λ i j. elim i as (λ i. i < j → j < length (o ∷ os) → get_or (o ∷ os) i 0 + get_or (s ∷ ss) i 0 ≤ get_or (o ∷ os) j 0) [
        | zero ↦ elim j as (λ j. 0 < j → j < length (o ∷ os) → o + s ≤ get_or (o ∷ os) j 0)
            [ zero ↦ λ l h. absurd (omega arith) | suc m ↦ λ l h. r.above m (omega arith) ]
        | suc n ↦ elim j as (λ j. suc n < j → j < length (o ∷ os) → get_or os n 0 + get_or ss n 0 ≤ get_or (o ∷ os) j 0)
            [ zero ↦ λ l h. absurd (omega arith) | suc m ↦ λ l h. r.behind n m (omega arith) (omega arith) ]
      ];
    }

pub row_back : (floor : ℕ) (os ss : List ℕ) → Row floor os ss → in_order floor os ss ≡ true
unfolding in_order
row_back floor [] [] r = refl
row_back floor [] (s ∷ ss) r = let z : ◌≡◌ {A = ℕ} 0 1 = absurd (omega (arith, r.paired)) in absurd (omega arith)
row_back floor (o ∷ os) [] r = let z : ◌≡◌ {A = ℕ} 0 1 = absurd (omega (arith, r.paired)) in absurd (omega arith)
row_back floor (o ∷ os) (s ∷ ss) r =
    let rest = row_back (o + s) os ss (record {
      paired = omega (arith, r.paired);
      some = λ i h. r.some (suc i) (omega arith);
      above = λ i h. r.behind 0 (suc i) (omega arith) (omega arith);
      behind = λ i j l h. r.behind (suc i) (suc j) (omega arith) (omega arith);
    }) in
    rw (lt-ltb 0 s (r.some 0 (omega arith)), le-leb floor o (r.above 0 (omega arith)), rest)
