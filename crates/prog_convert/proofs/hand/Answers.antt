-- `hand` meets its contract: a refusal's line fits, and a converted file stands in the buffer already.
use Rattle.std.proofs.Common.{arith}
use Rattle.prog_convert.specs.Laws.Program.{shows-written}
use Rattle.prog_convert.proofs.hand.Goals as goal

pub returns-in-Err : goal.returns-in-Err
returns-in-Err g c =
    let w = c.write_refusal-end.ensures in
    rw c.in-Err.is (shows-written c.print.result w.writes (omega (arith, w.upper_bound, c.requires)) c.print.ensures)
