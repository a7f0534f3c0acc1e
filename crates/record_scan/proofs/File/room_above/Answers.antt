use Rattle.record_scan.proofs.Loops.{looking-starts, looking-on}
use Rattle.record_scan.proofs.File.room_above.Goals as goal

pub loop-init : goal.loop-init
loop-init c =
    let a = c.args in looking-starts a.self.now.format a.self.now.text.now a.n a.first a.end

pub loop-preserved : goal.loop-preserved
loop-preserved c =
    let a = c.args in
    looking-on a.self.now.format a.self.now.text.now a.n a.first a.end c.loop.invariant c.requires.1 c.loop-test.true c.known_line-s.ensures
    c.lower-top.ensures
