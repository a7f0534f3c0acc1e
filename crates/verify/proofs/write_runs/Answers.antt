-- `write_runs` meets its contract: the first walk counts the runs, and the second is made only where there is room for all.
use Rattle.std.proofs.Common.{rules}
use Rattle.verify.specs.Runs.{readback, runs_of}
use Rattle.verify.proofs.Room.{enough}
use Rattle.verify.proofs.write_runs.Goals as goal

pub returns : goal.returns
returns c =
    let a = c.args in
    let i = a.image.now in
    let g = a.given.now in
    enough (runs_of (readback i.bytes.now i.offsets.now i.sizes.now g.bytes.now g.offsets.now g.sizes.now))
    a.firsts.now a.counts.now a.kinds.now c.walk-count.ensures.put c.if-firsts-count.false c.if-counts-count.false c.if-kinds-count.false
    c.walk.ensures.put (search rules) (search rules) (search rules)
