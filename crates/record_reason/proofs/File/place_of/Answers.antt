use mathlib.Core.Path.{refl}
use Rattle.record_reason.proofs.Walks.{walking-starts, walking_on}
use Rattle.record_reason.proofs.File.place_of.Goals as goal

pub loop-init : goal.loop-init
loop-init c =
    walking-starts c.args.self.now.format c.args.self.now.text.now c.args.n

pub loop-preserved : goal.loop-preserved
loop-preserved c =
    walking_on _ _ _ c.loop.invariant c.loop-test.true
    (c.search_line-s.ensures c.args.self.now.spells) refl
