-- `record_ihex_line::is_good` tests as the definition does.
use mathlib.Core.Path.{◌∙◌}
use Rattle.record_ihex_line.proofs.LineLaws.{no-colon, by-sum}
use Rattle.record_ihex_line.proofs.is_good.Goals as goal

pub returns-then-char_at-ne58 : goal.returns-then-char_at-ne58
returns-then-char_at-ne58 c spells =
    let a = c.args in
    no-colon a.line.now c.char_at.result c.char_at.ensures c.if-char_at-ne58.true

pub returns : goal.returns
returns c spells =
    let a = c.args in
    by-sum a.line.now c.char_at.result c.from-count.result c.char_at.ensures c.if-char_at-ne58.false (c.from-count.ensures ∙ c.pair.ensures spells)
    c.sum_checked.result (c.sum_checked.ensures spells)
