use Rattle.record_scan.proofs.WindowLaws.{seeking-on}
use Rattle.record_scan.proofs.File.first_twice.Goals as goal

pub loop-low-preserved : goal.loop-low-preserved
loop-low-preserved c =
    let a = c.args in
    seeking-on a.self.now.format a.self.now.text.now a.n a.scratch.now c.loop-low.invariant c.loop-low-test.true c.mark_window-w.ensures
    c.requires.scratch_nonzero.1 c.clear.ensures
