-- `record_srec_line::end_line`: of the width in force, with no data.
use mathlib.Core.Path.{sym, ◌∙◌}
use borrow.Author.Tests.{not-true, not-false}
use Rattle.record_lines.specs.Laws.Items.{as-bad, as-ends}
use Rattle.record_srec_line.proofs.Laws.{end-other, end-count, end-ends}
use Rattle.record_srec_line.proofs.Reading.end_line.Goals as goal

pub returns-then-not-does_agree : goal.returns-then-not-does_agree
returns-then-not-does_agree c spells =
    as-bad (end-other _ _ _ (sym c.does_agree.ensures ∙ not-true _ c.if-not-does_agree.true-raw)) c.plain.ensures

pub returns-then-from-width : goal.returns-then-from-width
returns-then-from-width c spells =
    as-bad (end-count _ _ _ (sym c.does_agree.ensures ∙ not-false _ c.if-not-does_agree.false-raw)
    (λ e. c.if-from-width.true (c.from.ensures ∙ c.pair.ensures spells ∙ e))) c.plain-then-from-width.ensures

pub returns : goal.returns
returns c spells =
    as-ends (end-ends _ _ _ (sym c.does_agree.ensures ∙ not-false _ c.if-not-does_agree.false-raw)
    (sym (c.from.ensures ∙ c.pair.ensures spells) ∙ c.if-from-width.false)) c.plain-2.ensures
