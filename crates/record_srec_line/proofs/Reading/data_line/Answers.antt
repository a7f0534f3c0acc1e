-- `record_srec_line::data_line`: of the width in force, with an address, and within the width.
use mathlib.Core.Path.{sym, ◌∙◌}
use native.Mathlib.Omega.{arith}
use borrow.Author.Tests.{not-true, not-false}
use Rattle.record_lines.specs.Laws.Items.{as-bad}
use Rattle.record_srec_line.proofs.Laws.{data-other, data-short, data-past, data-gives, data-as}
use Rattle.record_srec_line.proofs.Reading.data_line.Goals as goal

pub returns-then-not-does_agree : goal.returns-then-not-does_agree
returns-then-not-does_agree c spells long =
    as-bad (data-other _ _ _ (sym c.does_agree.ensures ∙ not-true _ c.if-not-does_agree.true-raw)) c.plain.ensures

pub returns-then-count-width : goal.returns-then-count-width
returns-then-count-width c spells long =
    as-bad (data-short _ _ _ (sym c.does_agree.ensures ∙ not-false _ c.if-not-does_agree.false-raw) (omega (arith, c.from-count.ensures, c.pair.ensures spells)))
    c.plain-then-count-width.ensures

pub returns-then-from-limit : goal.returns-then-from-limit
returns-then-from-limit c spells long =
    as-bad
    (data-past _ _ _ (sym c.does_agree.ensures ∙ not-false _ c.if-not-does_agree.false-raw) (omega (arith, c.from-count.ensures, c.pair.ensures spells))
    (omega (arith, c.from-count.ensures, c.pair.ensures spells, c.address_of-address.ensures spells, c.limit.ensures)))
    c.plain-then-from-limit.ensures

pub returns : goal.returns
returns c spells long =
    let l = c.args.self.now.line.now in
    let w = c.args.width in
    let own = sym c.does_agree.ensures ∙ not-false _ c.if-not-does_agree.false-raw in
    data-as w c.args.self.now.state l c.address_of-address.result c.from-count.result (c.address_of-address.ensures spells) (c.from-count.ensures ∙ c.pair.ensures spells)
    (data-gives w c.args.self.now.state l own (omega (arith, c.from-count.ensures, c.pair.ensures spells))
    (omega (arith, c.from-count.ensures, c.pair.ensures spells, c.address_of-address.ensures spells, c.limit.ensures)))
    (omega (arith, c.from-count.ensures, c.pair.ensures spells)) long
