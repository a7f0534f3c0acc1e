-- Laws that users of scratch need.
use Rattle.std.specs.Prelude.{◌≡◌, refl, true, List, [], ◌∷◌, ℕ, eqb}
use Rattle.std.proofs.Common.{ap₂, eqb-true}
use Rattle.prelude.specs.Laws.Bools.{both}
use Rattle.bitvec.specs.Clear.{cleared}
use Rattle.record_scan.specs.Windows.{all_zero}

-- Scratch that is all 0 is as a cleared image is.
pub zero-cleared : (l : List ℕ) → all_zero l ≡ true → l ≡ cleared l
unfolding all_zero
zero-cleared [] e = refl
zero-cleared (b ∷ l) e =
    let two = both (eqb b 0) (all_zero l) e in
    ap₂ (λ (x : ℕ) (m : List ℕ). x ∷ m) (eqb-true b 0 two.0) (zero-cleared l two.1)
