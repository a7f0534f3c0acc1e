use Rattle.std.proofs.Common.{arith}
use Rattle.overlay.specs.Runs.{agree}
use Rattle.overlay.proofs.StretchLaws.{look-far}
use Rattle.overlay.proofs.Images.skip_same.Goals as goal

pub loop-i-preserved : goal.loop-i-preserved
loop-i-preserved c =
    let a = c.args in
    let same = c.same_stretch.ensures c.if-same_stretch.true in (
      omega arith,
      look-far (agree a.self.now.overlay.now a.self.now.released.now) 64 a.at a.self.now.to c.loop-i.i (omega arith) same c.loop-i.invariant.1,
    )
