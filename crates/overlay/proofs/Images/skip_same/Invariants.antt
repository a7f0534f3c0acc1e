-- `skip_same` meets its contract: whole stretches that agree are passed over.
use Rattle.std.proofs.Common.{◌≡◌, ◌+◌, ◌-◌, ◌≤◌}
use Rattle.overlay.specs.Runs.{agree, length_from}
use Rattle.overlay.proofs.Images.skip_same.Given as goal

abbrev pub invariant-loop-i : goal.invariant-loop-i
invariant-loop-i l = (l.i ≤ l.self.to)
    × (l.at + length_from (agree l.self.overlay.now l.self.released.now) l.at (l.self.to - l.at) ≡ l.i + length_from (agree l.self.overlay.now l.self.released.now) l.i (l.self.to - l.i))

abbrev pub decreases-loop-i : goal.decreases-loop-i
decreases-loop-i l = l.self.to - l.i
