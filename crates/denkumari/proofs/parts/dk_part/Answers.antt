-- `dk_part` says its sentence: the verdict, told in numbers.
use mathlib.Core.Path.{ap, ◌∙◌}
use Rattle.c_answers.specs.Parts.{part_by}
use Rattle.meets_bits.specs.Theorems.Part.{part_meets}
use Rattle.denkumari.proofs.parts.dk_part.Goals as goal

pub returns : goal.returns
returns c =
    part_meets _ _ _ _ (record { answer = c.tell_part.ensures ∙ ap (part_by c.args.offset c.args.size) c.part_verdict.ensures.answer })
