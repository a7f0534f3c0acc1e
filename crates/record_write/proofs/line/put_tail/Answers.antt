-- `record_write::line::put_tail`: the stores stand one behind the other.
use Rattle.std.proofs.Common.{◌+◌, ◌*◌, length, refl}
use Rattle.record_write.proofs.LineLaws.{tail-stored}
use Rattle.record_write.proofs.line.put_tail.Goals as goal

pub returns-clause-out_after : goal.returns-clause-out_after
returns-clause-out_after c =
    let a = c.args in tail-stored a.out.now a.bytes.now a.at (a.at + 2 * length a.bytes.now) a.check c.put_bytes.ensures.out_after
    c.put_byte.ensures.out_after refl
