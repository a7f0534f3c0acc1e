-- `record_write::end_room`: the end record by its format.
use Rattle.std.proofs.Common.{[], length, ap, arith}
use Rattle.record_write.proofs.LineLaws.{end-hex, end_short, end-long, record-long, ended-long}
use Rattle.record_write.proofs.end_room.Goals as goal

pub returns-then-format-eq2 : goal.returns-then-format-eq2
returns-then-format-eq2 c =
    let a = c.args in (omega (arith, ap length (end_short a.format c.if-format-eq2.true), ended-long 57 2 0 []), omega arith)

pub returns-then-format-ne0 : goal.returns-then-format-ne0
returns-then-format-ne0 c =
    let a = c.args in (
      omega (
        arith,
        ap length (end-long a.format c.if-format-ne0.true c.if-format-eq2.false),
        ended-long 55 4 0
            [],
      ),
      omega arith,
    )

pub returns : goal.returns
returns c =
    let a = c.args in (omega (arith, ap length (end-hex a.format c.if-format-ne0.false), record-long 1 0 []), omega arith)
