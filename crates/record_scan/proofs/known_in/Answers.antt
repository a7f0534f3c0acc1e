-- `record_scan::known_in`: the format's own reading.
use Rattle.record_scan.proofs.Ends.{good-hex, good-srec}
use Rattle.record_scan.proofs.Laws.{in-hex, in-srec}
use Rattle.record_scan.proofs.known_in.Goals as goal

pub returns-then-format-eq0 : goal.returns-then-format-eq0
returns-then-format-eq0 c =
    let good = good-hex c.args.format c.args.state c.args.line.now c.if-format-eq0.true c.requires.good in
    in-hex _ c.if-format-eq0.true (c.known_line.ensures c.requires.spells good)

pub returns : goal.returns
returns c =
    let good = good-srec c.args.format c.args.state c.args.line.now c.if-format-eq0.false c.requires.good in
    in-srec _ c.if-format-eq0.false (c.known_line-2.ensures c.requires.spells good)
