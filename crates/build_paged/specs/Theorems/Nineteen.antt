-- A build in the profile is refused 19 exactly when a rule is broken: the ordinary build gives no 19.
use Rattle.std.specs.Prelude.{◌<◌}
use Rattle.prelude.specs.Told.{told_number}
use Rattle.output.specs.Output.{Input, Room, settled_of}
use Rattle.output.specs.Output.{settled_told}
use Rattle.build_paged.specs.Laws.Nineteen.{build-low, layout-low}

-- The ordinary build is refused for no number from 17 on.
pub ordinary-below-17 : (b : Input) (room : Room) → told_number (settled_told b room (settled_of b)) < 17
ordinary-below-17 b room = build-low b room (settled_of b) (layout-low b.banks b.lists b.choices)
