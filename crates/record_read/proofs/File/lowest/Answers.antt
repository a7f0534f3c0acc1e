use Rattle.record_read.proofs.Loops.{looking-starts, looking-on}
use Rattle.record_read.proofs.File.lowest.Goals as goal

pub loop-init : goal.loop-init
loop-init c =
    let a = c.args in
    let f = a.self.now in looking-starts f.format f.text.now f.n f.load a.from

pub loop-preserved : goal.loop-preserved
loop-preserved c =
    let a = c.args in
    let f = a.self.now in
    looking-on f.format f.text.now f.n f.load a.from c.loop.invariant c.loop-test.true c.known_line-s.ensures c.extent.ensures
    c.better-best.ensures
