-- `record_write::line::put_short`: the head, the data and the checksum are the line.
use Rattle.std.proofs.Common.{◌+◌, length, refl}
use Rattle.record_write.proofs.LineLaws.{short-line}
use Rattle.record_write.proofs.line.put_short.Goals as goal

pub returns : goal.returns
returns c =
    let a = c.args in
    short-line a.out.now a.bytes.now a.digit a.address (3 + length a.bytes.now) c.byte_of-high.result c.byte_of-low.result
    c.sum.result c.sum_four-sum.result c.put_tail.result refl c.byte_of-high.ensures c.byte_of-low.ensures c.sum.ensures
    c.sum_four-sum.ensures c.put_s_head.ensures.out_after c.put_tail.ensures.out_after c.put_tail.ensures.value
