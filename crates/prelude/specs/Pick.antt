-- A case chosen by a test, the way in which the definitions of the layout choose, and the two laws by which a proof follows it.
use Rattle.std.specs.Prelude.{Bool, true, false}

abbrev pub pick {ℓ} : {X : Type ℓ} → Bool → X → X → X
pick true x y = x
pick false x y = y
