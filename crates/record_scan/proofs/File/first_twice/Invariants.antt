-- `record_scan::File::first_twice`: below `low`, no line before the limit gives a byte twice.
use Prim.Native.Nat.{◌-◌}
use Rattle.record_scan.proofs.WindowLaws.{Seeking}
use Rattle.record_scan.proofs.File.first_twice.Given as goal

abbrev pub invariant-loop-low : goal.invariant-loop-low
invariant-loop-low l = Seeking l.self.format l.self.text.now l.n l.initial.scratch l.low l.limit l.scratch

abbrev pub decreases-loop-low : goal.decreases-loop-low
decreases-loop-low l = 8589934592 - l.low
