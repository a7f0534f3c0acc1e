use mathlib.Core.Path.{sym, ◌∙◌}
use Rattle.record_read.proofs.Fills.{filling-starts, filling-on, filling-ends}
use Rattle.record_read.proofs.Loops.{rising-starts, rising-on, rising-ends}
use Rattle.record_read.proofs.File.store_up.Goals as goal

pub loop-init : goal.loop-init
loop-init c =
    let a = c.args in
    let f = a.self.now in (
      filling-starts f.format f.text.now f.n f.load a.bytes.now,
      rising-starts f.format f.text.now f.n f.load a.offsets.now a.sizes.now,
    )

pub loop-preserved : goal.loop-preserved
loop-preserved c =
    let a = c.args in
    let f = a.self.now in (
      filling-on f.format f.text.now f.n f.load a.bytes.now c.loop.invariant.0 c.loop-test.true c.known_line-s.ensures
          c.known_line-s.ensures.part c.fill_line.ensures,
      rising-on f.format f.text.now f.n f.load a.offsets.now a.sizes.now c.loop.invariant.1 (sym c.args.self.now.order ∙ c.requires) c.loop-test.true
          c.known_line-s.ensures c.extent.ensures c.go-walk.ensures.put c.go-walk.ensures.run,
    )

pub returns : goal.returns
returns c =
    let a = c.args in
    let f = a.self.now in (
      filling-ends f.format f.text.now f.n f.load a.bytes.now c.loop.invariant.0 c.loop-test.false,
      rising-ends f.format f.text.now f.n f.load a.offsets.now a.sizes.now c.loop.invariant.1 c.loop-test.false c.finish.ensures,
    )
