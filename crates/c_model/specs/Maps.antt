-- The map of a layout whose tables are lent as lists of numbers, told in numbers. The lists have a place for each of 4,096 nodes, so that 14 is not given.
use Rattle.std.specs.Prelude.{◌≡◌}
use Rattle.output.specs.Output.{Input}
use Rattle.build_map.specs.Map.{Lent, Maps, map_of}
use Rattle.c_answers.specs.Maps.{map_told}
use Rattle.c_answers.specs.declared.DkMap.{DkMap}

-- What `dk_map` promises: the map of the tables, told in numbers, and everything lent afterwards.
pub record MapTold (b : Input) (old : Lent) (r : DkMap) (new : Lent) : Type 0 where
  pub answer : r ≡ map_told (map_of b)
  pub maps : Maps b old (map_of b) new
