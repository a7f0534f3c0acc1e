-- `dk_hex` says its sentence: the answer, told in numbers.
use mathlib.Core.Path.{ap, ◌∙◌}
use Rattle.c_answers.specs.Counts.{hex_count}
use Rattle.meets_bits.specs.Theorems.Hex.{hex-meets}
use Rattle.denkumari.proofs.parts.dk_hex.Goals as goal

pub returns : goal.returns
returns c =
    hex-meets _ _ _ _ _ (record { answer = c.tell_hex.ensures ∙ ap hex_count c.write_hex.ensures.answer; digits = c.write_hex.ensures.digits })
