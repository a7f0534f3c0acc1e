-- Ticket 13 with Ticket 9: the profile's answer for a layout with one bank, and for the same layout with a bank 1: the same but for places, and bank 1 has
-- bank 0's pages.
use Rattle.std.specs.Prelude.{ℕ}
use Rattle.output.specs.Output.{Input}
use Rattle.build_profile.specs.Profile.{profile_of}
use Rattle.build_profile.specs.declared.Paged.{Paged}

-- what the profile call answers of a layout
abbrev pub profiled : Input → ℕ → Paged
profiled b page = profile_of b.banks b.lists b.choices.fill page
