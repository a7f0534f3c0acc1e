-- `record_ihex_line::line_of`: a line that is not good is bad, and of another one all is known.
use mathlib.Core.Path.{sym, ◌∙◌}
use borrow.Author.Tests.{not-true}
use Rattle.record_ihex_line.specs.Laws.Lines.{bad-line}
use Rattle.record_lines.specs.Laws.Items.{as-bad}
use Rattle.record_ihex_line.proofs.line_of.Goals as goal

pub returns-then-not-is_good : goal.returns-then-not-is_good
returns-then-not-is_good c spells =
    let a = c.args in
    as-bad (bad-line a.line.now a.state (sym (c.is_good.ensures spells) ∙ not-true _ c.if-not-is_good.true-raw)) c.plain.ensures
