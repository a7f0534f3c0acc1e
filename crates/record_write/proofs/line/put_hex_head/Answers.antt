-- `record_write::line::put_hex_head`: the stores stand one behind the other.
use Rattle.record_write.proofs.LineLaws.{hex-head}
use Rattle.record_write.proofs.line.put_hex_head.Goals as goal

pub returns-clause-out_after : goal.returns-clause-out_after
returns-clause-out_after c =
    let a = c.args in hex-head a.out.now a.n a.high a.low a.kind c.put_byte.ensures.out_after c.put_byte-2.ensures.out_after c.put_byte-3.ensures.out_after
    c.put_byte-4.ensures.out_after
