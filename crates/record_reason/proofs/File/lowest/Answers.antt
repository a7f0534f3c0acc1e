use Rattle.record_reason.proofs.Walks.{sinking-starts, sinking-on, sinking-ends}
use Rattle.record_reason.proofs.File.lowest.Goals as goal

pub loop-at-init : goal.loop-at-init
loop-at-init c =
    sinking-starts c.args.self.now.format c.args.self.now.text.now

pub loop-at-preserved : goal.loop-at-preserved
loop-at-preserved c =
    sinking-on _ _ c.loop-at.invariant c.loop-at-test.true
    (c.search_line-s.ensures c.args.self.now.spells) c.lower_of-low.ensures

pub returns : goal.returns
returns c =
    sinking-ends _ _ c.loop-at.invariant c.loop-at-test.false
