-- Laws that Theorems/Told rests on.
use Rattle.std.specs.Prelude.{ℕ, ◌<◌, ◌≡◌, false, eqb}
use Rattle.std.proofs.Common.{arith, ne_eqb}

pub nonzero : (u : ℕ) → 0 < u → eqb u 0 ≡ false
nonzero u h = ne_eqb u 0 (λ e. omega arith)
