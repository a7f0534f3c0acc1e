-- `dk_overlay_range` says its sentence: the answer, told in numbers.
use mathlib.Core.Path.{ap, ◌∙◌}
use Rattle.c_answers.specs.Parts.{overlay_by}
use Rattle.meets_overlay.specs.Theorems.Range.{range-meets}
use Rattle.denkumari.proofs.overlays.dk_overlay_range.Goals as goal

pub returns : goal.returns
returns c =
    range-meets _ _ _ _ _ _ _ (record { answer = c.tell_source.ensures ∙ ap (overlay_by c.args.first c.args.count) c.which-source.ensures.answer })
