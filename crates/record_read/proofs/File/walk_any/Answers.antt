use Rattle.record_scan.specs.Trail.{trail}
use Rattle.record_read.proofs.Loops.{finding-on, finding-ends}
use Rattle.record_read.proofs.File.walk_any.Goals as goal

pub loop-from-preserved : goal.loop-from-preserved
loop-from-preserved c =
    let a = c.args in
    let f = a.self.now in
    finding-on f.load (trail f.format f.text.now f.n).given f.end a.offsets.now a.sizes.now c.loop-from.invariant c.loop-from-test.true
    c.lowest-next.ensures c.go-walk.ensures.put c.go-walk.ensures.run c.behind-from.ensures

pub returns : goal.returns
returns c =
    let a = c.args in
    let f = a.self.now in
    finding-ends f.load (trail f.format f.text.now f.n).given f.end a.offsets.now a.sizes.now c.loop-from.invariant c.args.self.now.ready.ends
    c.loop-from-test.false c.finish.ensures
