-- A build in the profile (document 02, Ticket 9): its answer, and what stands in everything lent afterwards.
use Rattle.std.specs.Prelude.{ℕ, ◌≡◌, Err}
use Rattle.prelude.specs.Told.{Told, refuses, told_refusal}
use Rattle.prelude.specs.declared.Place.TheVariants.{Two}
use Rattle.prelude.specs.declared.Refusal.{Refusal}
use Rattle.prelude.specs.Verdict.{Verdict, Accepted}
use Rattle.bankdef.specs.Check.{check_of}
use Rattle.resolver.specs.Layout.{Checked}
use Rattle.nodes.specs.Lists.{lists_of}
use Rattle.output.specs.Output.{Input, Lent, Room, room_of, visits_of, left_by, build_of, refused_after, settled_of, Figures, told_build, settled_told}
use Rattle.output.specs.declared.Output.{Output}
use Rattle.build_profile.specs.Kept.{InProfile, Breaks}
use Rattle.build_profile.specs.Profile.{verdict_of}

-- What a call comes to: its answer, and what is lent afterwards.
pub record Outcome : Type 0 where
  pub answer : Output
  pub left : Lent

abbrev pub outcome : Output → Lent → Outcome
outcome r new = record { answer = r; left = new }

-- the ordinary build's
abbrev pub leaves : Input → Lent → Output → Lent
leaves b old r = left_by b.banks (visits_of b r.passes) b.lists.values old r.build

abbrev pub built_of : Input → Lent → Outcome
built_of b old = outcome (build_of b (room_of old)) (leaves b old (build_of b (room_of old)))

-- what the profile says of the layout
abbrev pub said_of : ℕ → Input → Verdict
said_of page b = verdict_of b.banks b.lists b.choices.fill page

-- "A build in the profile is the ordinary build after a yes." "19 (new), after 4 and before the first pass": no pass is run, and "each refusal ..
-- changes nothing lent".
abbrev pub after_yes : Verdict → Outcome → Lent → Outcome
after_yes Accepted built old = built
after_yes (Err why) built old = outcome (refused_after 0 why) old

unfoldable pub built_in_profile : ℕ → Input → Lent → Outcome
built_in_profile page b old = after_yes (said_of page b) (built_of b old) old

-- What is told, in figures: a refusal of the table or of the lists; 19 with the rule and its bank or node; or what the ordinary build tells.
pub data InProfileTold (page : ℕ) (b : Input) (room : Room) : Told Figures → Type 0 where
  table : (why : Refusal) → check_of b.banks ≡ Err why → InProfileTold page b room (told_refusal why)
  lists : (why : Refusal) → check_of b.banks ≡ Accepted → lists_of b.banks.len b.lists b.choices.fill ≡ Err why
      → InProfileTold page b room (told_refusal why)
  off : {rule at : ℕ} → Checked b.banks b.lists b.choices.fill → Breaks b.banks b.lists page rule at
      → InProfileTold page b room (refuses 19 (Two rule at))
  on : Checked b.banks b.lists b.choices.fill → InProfile b.banks b.lists page
      → InProfileTold page b room (settled_told b room (settled_of b))

-- What `build_in_profile` promises.
pub record BuildsInProfile (page : ℕ) (b : Input) (old : Lent) (r : Output) (new : Lent) : Type 0 where
  pub result : outcome r new ≡ built_in_profile page b old
  pub figures : InProfileTold page b (room_of old) (told_build r.build)
