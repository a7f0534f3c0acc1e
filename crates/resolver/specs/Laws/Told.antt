-- Laws that proofs about Told need.
use Rattle.std.specs.Prelude.{ℕ, ◌≡◌, Result, Err, Ok}
use Rattle.std.proofs.Common.{ap, arith}
use Rattle.prelude.specs.Told.{Told, refuses, told_refusal}
use Rattle.prelude.specs.Theorems.Told.{refusal-by-figures}
use Rattle.prelude.specs.declared.Place.{Place}
use Rattle.prelude.specs.declared.Refusal.{Refusal}
use Rattle.resolver.specs.Told.{told_settled}

number_same : {m n : ℕ} {p q : Place} → ◌≡◌ {A = Told ℕ} (refuses m p) (refuses n q) → m ≡ n
number_same e = cc

place_same : {m n : ℕ} {p q : Place} → ◌≡◌ {A = Told ℕ} (refuses m p) (refuses n q) → p ≡ q
place_same e = cc

-- Number and place tell the refusal.
pub by-figures : (x : Result ℕ Refusal) (why : Refusal) → told_settled x ≡ told_refusal why → x ≡ Err why
by-figures (Ok k) why e = absurd (let z : ◌≡◌ {A = ℕ} 0 1 = cc in let b : ⊥ = omega arith in b)
by-figures (Err other) why e = ap Err (refusal-by-figures other why (number_same e) (place_same e))
