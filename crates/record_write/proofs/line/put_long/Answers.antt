-- `record_write::line::put_long`: the head, the data and the checksum are the line.
use Rattle.std.proofs.Common.{◌+◌, length, refl}
use Rattle.record_write.proofs.LineLaws.{long-line}
use Rattle.record_write.proofs.line.put_long.Goals as goal

pub returns : goal.returns
returns c =
    let a = c.args in
    long-line a.out.now a.bytes.now a.digit a.address (5 + length a.bytes.now) c.byte_of-a.result c.byte_of-b.result
    c.byte_of-c.result c.byte_of-d.result c.sum.result c.sum_four.result _ _ c.put_tail.result refl c.byte_of-a.ensures c.byte_of-b.ensures c.byte_of-c.ensures
    c.byte_of-d.ensures c.sum.ensures c.sum_four.ensures refl refl
    c.put_s_head.ensures.out_after c.put_byte.ensures.out_after c.put_byte-2.ensures.out_after c.put_tail.ensures.out_after c.put_tail.ensures.value
