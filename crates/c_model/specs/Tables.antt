-- A layout whose tables are lent as lists of numbers, laid out and told in numbers.
use Rattle.std.specs.Prelude.{◌≡◌}
use Rattle.output.specs.Output.{Input, Lent, Builds, build_of, room_of}
use Rattle.c_answers.specs.Told.{layout_told}
use Rattle.c_answers.specs.declared.DkLayout.{DkLayout}

-- What `dk_build` promises: the build of the tables, told in numbers, and everything lent afterwards.
pub record TablesTold (b : Input) (old : Lent) (r : DkLayout) (new : Lent) : Type 0 where
  pub answer : r ≡ layout_told (build_of b (room_of old))
  pub built : Builds b old (build_of b (room_of old)) new
