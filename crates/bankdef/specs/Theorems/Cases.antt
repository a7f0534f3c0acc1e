-- Theorems about what Cases defines.
use Rattle.std.specs.Prelude.{◌≡◌, refl, Some, Err, None}
use Rattle.prelude.specs.Refusals.{number_of}
use Rattle.prelude.specs.declared.Refusal.TheVariants.{BanksOverlap}
use Rattle.prelude.specs.Verdict.{Accepted}
use Rattle.bankdef.specs.Search.{first_where}
use Rattle.bankdef.specs.Check.{first_pair}
use Rattle.bankdef.specs.Fill.{fill_from}
use Rattle.bankdef.specs.Cases.{alone, two}

-- "banks (offset 0, size 8), (8, 8): apart." "(0, 9), (8, 8): 3." "(8, 8), (0, no size): 3." "(0, 8), (8, no size): apart." "fill alone,
-- offset 0: size 1 gives length 0, size 2 gives 2."
pub bank-cases : (two 0 (Some 8) 8 (Some 8) ≡ Accepted) × (two 0 (Some 9) 8 (Some 8) ≡ Err (BanksOverlap 1 2)) × (two 8 (Some 8) 0 None ≡ Err
    (BanksOverlap 1 2)) × (two 0 (Some 8) 8 None ≡ Accepted) × (number_of (BanksOverlap 1 2) ≡ 3) × (alone 1 ≡ 0) × (alone 2 ≡ 2)
unfolding first_where first_pair fill_from
bank-cases = (refl, refl, refl, refl, refl, refl, refl)
