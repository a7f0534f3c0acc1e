-- Laws that Theorems/Numbers rests on.
use Rattle.std.specs.Prelude.{◌≡◌, refl, true, Option, ℕ, Some, None}
use Rattle.std.proofs.Common.{eqb-true}
use Rattle.prelude.specs.Laws.Bools.{clash}
use Rattle.bankdef.specs.Numbers.{is_zero}

pub zero-size : (o : Option ℕ) → is_zero o ≡ true → o ≡ Some 0
zero-size None e = absurd (clash e refl)
zero-size (Some n) e = rw (eqb-true n 0 e)
