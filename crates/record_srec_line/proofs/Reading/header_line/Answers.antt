-- `record_srec_line::header_line`: at least an address and a checksum.
use native.Mathlib.Omega.{arith}
use Rattle.record_lines.specs.Laws.Items.{as-bad, as-passes}
use Rattle.record_srec_line.proofs.Laws.{header-short, header-passes}
use Rattle.record_srec_line.proofs.Reading.header_line.Goals as goal

pub returns-then-pair-lt3 : goal.returns-then-pair-lt3
returns-then-pair-lt3 c spells =
    as-bad (header-short _ _ (omega (arith, c.pair.ensures spells))) c.plain.ensures

pub returns : goal.returns
returns c spells =
    as-passes (header-passes _ _ (omega (arith, c.pair.ensures spells))) c.plain-2.ensures
