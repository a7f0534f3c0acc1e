-- `record_write::line::put_piece` goes by the format.
use Rattle.std.proofs.Common.{length, ap, arith}
use Rattle.record_write.proofs.LineLaws.{by-short, by-long, ended-long}
use Rattle.record_write.proofs.line.put_piece.Goals as goal

pub put_short-requires : goal.put_short-requires
put_short-requires c =
    let a = c.args in
    let e = by-short a.state a.address a.bytes.now c.requires.0 a.format c.if-format-eq2.true in (
      c.requires.0,
      omega (
        arith,
        ap length e,
        ended-long 49 2 a.address a.bytes.now,
        c.requires.1,
      ),
    )

pub put_long-requires : goal.put_long-requires
put_long-requires c =
    let a = c.args in
    let e = by-long a.state a.address a.bytes.now c.requires.0 a.format c.if-format-eq0.false
    c.if-format-eq2.false in (
      c.requires.0,
      omega (
        arith,
        ap length e,
        ended-long 51 4 a.address a.bytes.now,
        c.requires.1,
      ),
    )
