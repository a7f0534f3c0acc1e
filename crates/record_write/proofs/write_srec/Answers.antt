-- `write_srec` is the writing of records, for the width's format.
use Rattle.record_write.proofs.Figures.{srec-figures}
use Rattle.record_write.proofs.write_srec.Goals as goal

pub returns : goal.returns
returns c =
    let a = c.args in
    srec-figures a.image.now a.offsets.now a.sizes.now a.load a.text.now a.width c.format_for-format.result c.format_for-format.ensures
    c.write.ensures
