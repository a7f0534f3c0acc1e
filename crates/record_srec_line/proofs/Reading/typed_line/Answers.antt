-- `record_srec_line::typed_line`: the types by their digits.
use Rattle.record_lines.specs.Laws.Items.{as-bad}
use Rattle.record_srec_line.proofs.Laws.{end-anywhere, header-anywhere, typed-header, typed-s1, typed-s3, typed-s7, typed-s9}
use Rattle.record_srec_line.specs.Laws.Lines.{typed-bad}
use Rattle.record_srec_line.proofs.Reading.typed_line.Goals as goal

pub returns-in-48 : goal.returns-in-48
returns-in-48 c spells long =
    rw (typed-header _ _ _ c.in-48.is) (header-anywhere 0 _ _ 0 _ (c.header_line.ensures spells))

pub returns-in-49 : goal.returns-in-49
returns-in-49 c spells long =
    rw (typed-s1 _ _ _ c.in-49.is, c.in-49.is) (c.data_line.ensures spells long)

pub returns-in-51 : goal.returns-in-51
returns-in-51 c spells long =
    rw (typed-s3 _ _ _ c.in-51.is, c.in-51.is) (c.data_line-in-51.ensures spells long)

pub returns-in-55 : goal.returns-in-55
returns-in-55 c spells long =
    rw (typed-s7 _ _ _ c.in-55.is) (end-anywhere 4 _ _ 0 _ (c.end_line.ensures spells))

pub returns-in-57 : goal.returns-in-57
returns-in-57 c spells long =
    rw (typed-s9 _ _ _ c.in-57.is) (end-anywhere 2 _ _ 0 _ (c.end_line-in-57.ensures spells))

pub returns-in_default : goal.returns-in_default
returns-in_default c spells long =
    let r = c.in_default.in_default-own.rest in
    as-bad (typed-bad _ _ _ r.0.0.0.0.1 r.0.0.0.1 r.0.0.1 r.0.1 r.1) c.plain.ensures
