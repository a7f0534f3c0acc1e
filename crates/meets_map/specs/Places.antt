-- What the types of the four lent lists hold: each is an array of 4,096 elements.
use Rattle.std.specs.Prelude.{◌≡◌, [], length}
use Rattle.says.specs.Map.{Lent}
use Rattle.says.specs.Build as build

pub record Places (old : Lent) : Type 0 where
  pub banks : length old.banks ≡ 4096
  pub positions : length old.positions ≡ 4096
  pub outputs : length old.outputs ≡ 4096
  pub sizes : length old.sizes ≡ 4096

-- what the build is lent whose refusals the map tells: they do not depend on it
abbrev pub nothing : build.Lent
nothing = record { image = []; addresses = []; offsets = []; sizes = [] }
