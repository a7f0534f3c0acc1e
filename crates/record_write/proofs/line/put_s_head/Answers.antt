-- `record_write::line::put_s_head`: the stores stand one behind the other.
use Rattle.record_write.proofs.LineLaws.{s-head}
use Rattle.record_write.proofs.line.put_s_head.Goals as goal

pub returns-clause-out_after : goal.returns-clause-out_after
returns-clause-out_after c =
    let a = c.args in s-head a.out.now a.digit a.a a.b a.c c.put_byte.ensures.out_after c.put_byte-2.ensures.out_after c.put_byte-3.ensures.out_after
