-- `record_ihex_line::known_line`: a law for each return.
use mathlib.Core.Path.{sym, ap, ◌∙◌}
use native.Mathlib.Omega.{arith}
use Rattle.record_ihex_line.proofs.LineLaws.{data-line, field-bad, end_line, end-bad, upper-line, upper-bad, other-bad}
use Rattle.record_ihex_line.specs.Laws.Lines.{good-long}
use Rattle.record_lines.specs.Items.{passes}
use Rattle.record_lines.specs.Laws.Items.{as-bad, as-passes, as-ends, as-gives}
use Rattle.record_ihex_line.proofs.known_line.Goals as goal

pub returns-then-kind-eq-TYPE_DATA : goal.returns-then-kind-eq-TYPE_DATA
returns-then-kind-eq-TYPE_DATA c spells good =
    let line = c.args.line.now in
    let long = good-long line good in
    rw (c.from.ensures, c.from-then-kind-eq-TYPE_DATA.ensures)
    (as-gives line c.args.state 9 _ c.pair-count.result c.args.state
    (data-line line c.args.state good c.pair-kind.result c.word-field.result c.pair-count.result (c.pair-kind.ensures spells)
    (c.word-field.ensures spells) (c.pair-count.ensures spells) c.if-kind-eq-TYPE_DATA.true)
    (omega (arith, c.pair-count.ensures spells)))

pub returns-then-field-ne0 : goal.returns-then-field-ne0
returns-then-field-ne0 c spells good =
    let line = c.args.line.now in
    as-bad (field-bad line c.args.state good c.pair-kind.result c.word-field.result c.pair-count.result (c.pair-kind.ensures spells)
    (c.word-field.ensures spells) (c.pair-count.ensures spells) c.if-kind-eq-TYPE_DATA.false c.if-field-ne0.true)
    c.plain.ensures

pub returns-then-count-eq0 : goal.returns-then-count-eq0
returns-then-count-eq0 c spells good =
    let line = c.args.line.now in
    as-ends (end_line line c.args.state good c.pair-kind.result c.word-field.result c.pair-count.result (c.pair-kind.ensures spells)
    (c.word-field.ensures spells) (c.pair-count.ensures spells) c.if-kind-eq-TYPE_END.true c.if-field-ne0.false c.if-count-eq0.true)
    c.plain-then-count-eq0.ensures

pub returns-then-kind-eq-TYPE_END : goal.returns-then-kind-eq-TYPE_END
returns-then-kind-eq-TYPE_END c spells good =
    let line = c.args.line.now in
    as-bad (end-bad line c.args.state good c.pair-kind.result c.word-field.result c.pair-count.result (c.pair-kind.ensures spells)
    (c.word-field.ensures spells) (c.pair-count.ensures spells) c.if-kind-eq-TYPE_END.true c.if-field-ne0.false c.if-count-eq0.false)
    c.plain-then-kind-eq-TYPE_END.ensures

pub returns-then-count-eq2 : goal.returns-then-count-eq2
returns-then-count-eq2 c spells good =
    let line = c.args.line.now in
    as-passes (upper-line line c.args.state good c.pair-kind.result c.word-field.result c.pair-count.result (c.pair-kind.ensures spells)
    (c.word-field.ensures spells) (c.pair-count.ensures spells) c.if-kind-eq-TYPE_UPPER.true c.if-field-ne0.false c.if-count-eq2.true
    ∙ sym (ap passes (c.word.ensures spells)))
    c.plain-then-count-eq2.ensures

pub returns-then-kind-eq-TYPE_UPPER : goal.returns-then-kind-eq-TYPE_UPPER
returns-then-kind-eq-TYPE_UPPER c spells good =
    let line = c.args.line.now in
    as-bad (upper-bad line c.args.state good c.pair-kind.result c.word-field.result c.pair-count.result (c.pair-kind.ensures spells)
    (c.word-field.ensures spells) (c.pair-count.ensures spells) c.if-kind-eq-TYPE_UPPER.true c.if-field-ne0.false c.if-count-eq2.false)
    c.plain-then-kind-eq-TYPE_UPPER.ensures

pub returns : goal.returns
returns c spells good =
    let line = c.args.line.now in
    as-bad (other-bad line c.args.state good c.pair-kind.result c.word-field.result c.pair-count.result (c.pair-kind.ensures spells)
    (c.word-field.ensures spells) (c.pair-count.ensures spells) c.if-kind-eq-TYPE_DATA.false c.if-kind-eq-TYPE_END.false c.if-kind-eq-TYPE_UPPER.false
    c.if-field-ne0.false)
    c.plain-2.ensures
