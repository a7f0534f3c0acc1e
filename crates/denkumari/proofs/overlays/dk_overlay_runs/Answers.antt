-- `dk_overlay_runs` says its sentence: the answer, told in numbers.
use mathlib.Core.Path.{ap, ◌∙◌}
use Rattle.c_answers.specs.Counts.{listed_count}
use Rattle.meets_overlay.specs.Theorems.Runs.{runs-meet}
use Rattle.denkumari.proofs.overlays.dk_overlay_runs.Goals as goal

pub returns : goal.returns
returns c =
    runs-meet _ _ _ _ _ _ _ _ _
    (record { answer = c.tell_listed.ensures ∙ ap listed_count c.differences.ensures.answer; first = c.differences.ensures.first; second = c.differences.ensures.second })
