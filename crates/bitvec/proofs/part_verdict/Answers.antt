-- `bitvec::part_verdict` answers by the test that `part` makes.
use mathlib.Core.Path.{sym, ◌∙◌}
use Rattle.bitvec.specs.Theorems.Part.{judged}
use Rattle.bitvec.proofs.part_verdict.Goals as goal

pub returns-then-is_part : goal.returns-then-is_part
returns-then-is_part c =
    judged _ _ _ (rw (sym c.is_part.ensures ∙ c.if-is_part.true))

pub returns-else-is_part : goal.returns-else-is_part
returns-else-is_part c =
    judged _ _ _ (rw (sym c.is_part.ensures ∙ c.if-is_part.false))
