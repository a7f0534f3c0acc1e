-- `record_scan::File::walk`: after n lines that give nothing twice, the file is what they give and what the lines behind them say.
use Prim.Native.Nat.{◌-◌}
use mathlib.Core.Bool.{false}
use mathlib.Core.Path.{◌≡◌}
use lib.ListN.{length}
use Rattle.record_scan.proofs.Loops.{Walking}
use Rattle.record_scan.proofs.File.walk.Given as goal

abbrev pub invariant-loop-at : goal.invariant-loop-at
invariant-loop-at l = record {
  told : Walking l.self.format l.load l.self.text.now l.strict l.at l.state l.walk.high l.walk.ascend l.walk.parts l.walk.sure l.free l.walk.lines;
  open_end : l.walk.whole ≡ false;
  same : l.walk.line ≡ l.walk.lines;
}

abbrev pub decreases-loop-at : goal.decreases-loop-at
decreases-loop-at l = length l.self.text.now - l.at
