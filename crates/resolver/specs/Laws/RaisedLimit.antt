-- Laws that Theorems/RaisedLimit rests on.
use Rattle.std.specs.Prelude.{ℕ, ◌<◌, Bool, Result}
use Rattle.std.proofs.Common.{arith, ne_eqb}
use Rattle.prelude.specs.declared.Refusal.{Refusal}
use Rattle.resolver.specs.Ends.{SettlesBelow}
use Rattle.resolver.specs.Run.{IsK}

-- K of a limit above it is found below every limit above it
pub below_again : (pass : ℕ → Bool → Result ℕ Refusal) (m n k : ℕ) → IsK pass m k → k < m → k < n → SettlesBelow pass n k
below_again pass m n k is less more =
    let some : 0 < m = omega arith in
    record {
      runs = record { counted = is.counted some; below = more; unsettled = is.before };
      settles = rw (ne_eqb k m (λ q. omega arith)) at (is.settled some);
    }
