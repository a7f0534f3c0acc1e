-- `record_srec_line::line_of`: a line that is not sound is bad, and of another one all is known.
use mathlib.Core.Path.{sym, ◌∙◌}
use borrow.Author.Tests.{not-true}
use Rattle.record_lines.specs.Laws.Items.{as-bad}
use Rattle.record_srec_line.specs.Laws.Lines.{item-bad}
use Rattle.record_srec_line.proofs.line_of.Goals as goal

pub returns-then-not-is_sound : goal.returns-then-not-is_sound
returns-then-not-is_sound c spells =
    as-bad (item-bad _ _ (sym (c.is_sound.ensures spells) ∙ not-true _ c.if-not-is_sound.true-raw)) c.plain.ensures
