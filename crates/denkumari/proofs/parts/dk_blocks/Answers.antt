-- `dk_blocks` says its sentence: the answer, told in numbers.
use mathlib.Core.Path.{ap, ◌∙◌}
use Rattle.c_answers.specs.Counts.{blocks_count}
use Rattle.meets_bits.specs.Theorems.Blocks.{dk-blocks-meets}
use Rattle.denkumari.proofs.parts.dk_blocks.Goals as goal

pub returns : goal.returns
returns c =
    dk-blocks-meets _ _ _ _ _ _ _ (record { answer = c.tell_blocks.ensures ∙ ap blocks_count c.get_blocks.ensures.answer; first = c.get_blocks.ensures.first; second = c.get_blocks.ensures.second })
