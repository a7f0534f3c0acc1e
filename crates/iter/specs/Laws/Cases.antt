-- Laws that Theorems/Cases rests on.
use Rattle.std.specs.Prelude.{ℕ, ◌≡◌, refl, true, Ok}
use Rattle.bankdef.specs.declared.Bankdef.{Bankdef}
use Rattle.iter.specs.Theorems.Aligned.{to_none}
use Rattle.iter.specs.Distance.{tellable, no_skip, distance_of}
use Rattle.iter.specs.Cases.{below_zero, unit_eight, unit_ten}

pub at_none : (def : Bankdef) (position node : ℕ) → tellable def ≡ true → distance_of def position 0 node ≡ Ok no_skip
at_none def position node e = to_none def position 0 node e refl

pub at-six : (node : ℕ) → distance_of unit_ten 10 16 node ≡ Ok (record { bits = 6; units = 0 })
unfolding distance_of
at-six node = refl

pub at_there : (node : ℕ) → distance_of unit_ten 16 16 node ≡ Ok no_skip
unfolding distance_of
at_there node = refl

pub at-three : (node : ℕ) → distance_of below_zero 0 8 node ≡ Ok (record { bits = 3; units = 3 })
unfolding distance_of
at-three node = refl

pub at-twelve : (node : ℕ) → distance_of unit_eight 4 16 node ≡ Ok (record { bits = 12; units = 1 })
unfolding distance_of
at-twelve node = refl
