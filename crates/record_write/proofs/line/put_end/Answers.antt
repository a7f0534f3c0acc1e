-- `record_write::line::put_end` goes by the format.
use Rattle.std.proofs.Common.{[], length, ap, arith}
use Rattle.record_write.proofs.LineLaws.{end-hex, end_short, end-long, record-long, ended-long}
use Rattle.record_write.proofs.line.put_end.Goals as goal

pub put_record-requires : goal.put_record-requires
put_record-requires c =
    let a = c.args in (
      omega arith,
      omega (
        arith,
        ap length (end-hex a.format c.if-format-eq0.true),
        record-long 1 0 [],
        c.requires,
      ),
    )

pub put_short-requires : goal.put_short-requires
put_short-requires c =
    let a = c.args in (
      omega arith,
      omega (
        arith,
        ap length (end_short a.format c.if-format-eq2.true),
        ended-long 57 2 0 [],
        c.requires,
      ),
    )

pub put_long-requires : goal.put_long-requires
put_long-requires c =
    let a = c.args in (
      omega arith,
      omega (
        arith,
        ap length (end-long a.format c.if-format-eq0.false c.if-format-eq2.false),
        ended-long 55 4 0 [],
        c.requires,
      ),
    )
