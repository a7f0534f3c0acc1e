-- Ticket 13 with Ticket 9, of the build in the profile: the same answer but for places, and everything lent the same.
use Rattle.std.specs.Prelude.{◌∷◌, get_or, replicate, Err, Ok, Result}
use Rattle.iter.specs.Step.{no_lost}
use Rattle.output.specs.Output.{Input}
use Rattle.output.specs.declared.Output.{Output}
use Rattle.output.specs.declared.Built.{Built}
use Rattle.build_paged.specs.InProfile.{Outcome, outcome}
use Rattle.thm_conversions.specs.Widened.{raised}
use Rattle.thm_conversions.specs.Raised.{rule_raised}
use Rattle.prelude.specs.declared.Refusal.{Refusal}

-- ---- what becomes of the answer

-- as the ordinary build's, and 19 by its rule
abbrev pub profile_build : Input → Result Built Refusal → Result Built Refusal
profile_build b (Ok ended) = Ok ended
profile_build b (Err why) = Err (raised b (rule_raised why))

abbrev pub profile_output : Input → Output → Output
profile_output b o =
    record { build = profile_build b o.build; passes = o.passes; padding = no_lost ∷ get_or o.padding 0 no_lost ∷ replicate 14 no_lost }

abbrev pub profile_outcome : Input → Outcome → Outcome
profile_outcome b o = outcome (profile_output b o.answer) o.left
