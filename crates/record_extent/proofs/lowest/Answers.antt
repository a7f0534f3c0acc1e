use Rattle.record_extent.proofs.Laws.{sinking-starts, sinking-on}
use Rattle.record_extent.proofs.lowest.Goals as goal

pub loop-init : goal.loop-init
loop-init c =
    let a = c.args in sinking-starts a.format a.text.now a.n

pub loop-preserved : goal.loop-preserved
loop-preserved c =
    let a = c.args in
    sinking-on a.format a.text.now a.n c.loop.invariant c.loop-test.true c.known_line-s.ensures c.lower-low.ensures
