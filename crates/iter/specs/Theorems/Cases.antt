-- Theorems about what Cases defines.
use Rattle.std.specs.Prelude.{refl}
use Rattle.iter.specs.Cases.{DistanceCases}
use Rattle.iter.specs.Laws.Cases.{at_none, at-six, at_there, at-three, at-twelve}

pub distance_cases : DistanceCases
distance_cases = record { none = at_none; six = at-six; there = at_there; remains = refl; three = at-three; twelve = at-twelve }
