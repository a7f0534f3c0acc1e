use Rattle.record_read.proofs.Fills.{filling-starts, filling-on}
use Rattle.record_read.proofs.File.fill.Goals as goal

pub loop-init : goal.loop-init
loop-init c =
    let a = c.args in
    let f = a.self.now in filling-starts f.format f.text.now f.n f.load a.bytes.now

pub loop-preserved : goal.loop-preserved
loop-preserved c =
    let a = c.args in
    let f = a.self.now in
    filling-on f.format f.text.now f.n f.load a.bytes.now c.loop.invariant c.loop-test.true c.known_line-s.ensures
    c.known_line-s.ensures.part c.fill_line.ensures
