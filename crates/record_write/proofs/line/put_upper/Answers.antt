-- `record_write::line::put_upper` writes a record or nothing.
use Rattle.std.proofs.Common.{arith}
use Rattle.record_write.proofs.LineLaws.{upper-some}
use Rattle.record_write.proofs.line.put_upper.Goals as goal

pub put_record-requires : goal.put_record-requires
put_record-requires c =
    let a = c.args in
    (omega arith, omega (arith, upper-some a.in_force a.upper c.if-upper-in_force.false, c.requires))
