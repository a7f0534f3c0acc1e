-- Theorems about what Pairs defines.
use Rattle.std.specs.Prelude.{List, [], ◌∷◌, drop}
use Rattle.std.proofs.Common.{arith}
use Rattle.bankdef.specs.declared.Bankdef.{Bankdef}
use Rattle.bankdef.specs.Check.{first_pair}
use Rattle.bankdef.specs.Laws.Pairs.{answer, counted}
use Rattle.bankdef.specs.Pairs.{Pairs, apart}

-- The search for a pair says it.
pub pairs : (l : List Bankdef) → Pairs l (first_pair 1 (drop 1 l))
unfolding first_pair
pairs [] = apart (λ i j m. omega (arith, m.there))
pairs (z ∷ l) = counted z l (answer 1 l)
