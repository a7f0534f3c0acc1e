-- `record_write::line::put_record`: the stores are one line, and its check byte makes the sum zero.
use Rattle.std.proofs.Common.{refl, arith}
use Rattle.record_write.proofs.LineLaws.{hex-record}
use Rattle.record_write.proofs.line.put_record.Goals as goal

pub returns : goal.returns
returns c =
    let a = c.args in
    hex-record a.out.now a.bytes.now a.kind a.field c.sum_four.result c.sum.result _ _ c.put_tail.result c.sum_four.ensures c.sum.ensures refl
    (omega arith) (omega arith) c.put_hex_head.ensures.out_after c.put_tail.ensures.out_after c.put_tail.ensures.value
