-- `record_reason::spelling::own_cause`: how it is spelled, then its type.
use borrow.Author.Tests.{eq-eqb, ne_eqb}
use Rattle.record_reason.specs.Spelling.{own_cause}
use Rattle.record_reason.proofs.SpellingLaws.{or-first, or-second}
use Rattle.record_reason.proofs.spelling.own_cause.Goals as goal

pub returns-then-spelt-ne0 : goal.returns-then-spelt-ne0
unfolding own_cause
returns-then-spelt-ne0 c =
    or-first _ c.spelling_in-spelt.ensures c.if-spelt-ne0.true

pub returns-then-format-eq0 : goal.returns-then-format-eq0
unfolding own_cause
returns-then-format-eq0 c =
    let args' = c.args in
    or-second _ c.spelling_in-spelt.ensures c.if-spelt-ne0.false (rw (eq-eqb args'.format 0 c.if-format-eq0.true) c.hex_type.ensures)

pub returns : goal.returns
unfolding own_cause
returns c =
    let args' = c.args in
    or-second _ c.spelling_in-spelt.ensures c.if-spelt-ne0.false (rw (ne_eqb args'.format 0 c.if-format-eq0.false) c.srec_type.ensures)
