-- Laws that proofs about Pick need.
use Rattle.std.specs.Prelude.{◌≡◌, Bool, true, false}
use Rattle.std.proofs.Common.{sym, ◌∙◌}
use Rattle.prelude.specs.Pick.{pick}

pub pick_true {ℓ} : {X : Type ℓ} {b : Bool} (x y : X) → b ≡ true → pick b x y ≡ x
pick_true x y e = rw e

pub pick-false {ℓ} : {X : Type ℓ} {b : Bool} (x y : X) → b ≡ false → pick b x y ≡ y
pick-false x y e = rw e

-- Where a contract says of an outcome that it equals what a definition gives, the outcome is one: two that meet it are equal.
pub determined {ℓ} : {X : Type ℓ} {r s d : X} → r ≡ d → s ≡ d → r ≡ s
determined p q = p ∙ sym q

-- two such equations at once, for an outcome of two parts
pub paired {ℓ ℓ'} : {X : Type ℓ} {Y : Type ℓ'} {x x' : X} {y y' : Y} → x ≡ x' → y ≡ y' → ◌≡◌ {A = X × Y} (x, y) (x', y')
paired p q = rw (p, q)
