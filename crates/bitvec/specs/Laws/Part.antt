-- Laws that Theorems/Part rests on.
use Rattle.std.specs.Prelude.{ℕ}
use Rattle.std.proofs.Common.{arith}
use Rattle.bitvec.specs.Part.{IsPart, Unfit, empty, outside, ragged-end, ragged-start}

pub fit-not : {len offset size : ℕ} → Unfit len offset size → IsPart len offset size → ⊥
fit-not (empty e) p = omega (arith, p.some)
fit-not (outside h) p = omega (arith, p.inside)
fit-not (ragged-start n) p = n p.starts
fit-not (ragged-end n) p = n p.ends
