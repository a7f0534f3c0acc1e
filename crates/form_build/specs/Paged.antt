-- A build, in the profile of a device with pages where a page size is given.
use Rattle.std.specs.Prelude.{◌≡◌, Err, Option, ℕ, None, Some}
use Rattle.prelude.specs.Verdict.{Verdict, Accepted}
use Rattle.output.specs.Output.{Input, Lent, Room, room_of, build_of, refused_after, left_by, visits_of}
use Rattle.output.specs.declared.Output.{Output}
use Rattle.build_paged.specs.InProfile.{said_of}

-- "A build in the profile is the ordinary build after a yes. Refusals: 19 (new), after 4 and before the first pass" (document 02, Ticket 9)
abbrev pub after_said : Verdict → Output → Output
after_said Accepted built = built
after_said (Err why) built = refused_after 0 why

abbrev pub output_in : Option ℕ → Input → Room → Output
output_in None b room = build_of b room
output_in (Some page) b room = after_said (said_of page b) (build_of b room)

-- What a build promises, with a page size or without: its answer, and everything lent afterwards.
pub record BuiltIn (page : Option ℕ) (b : Input) (old : Lent) (r : Output) (new : Lent) : Type 0 where
  pub answer : r ≡ output_in page b (room_of old)
  pub left : new ≡ left_by b.banks (visits_of b r.passes) b.lists.values old r.build
