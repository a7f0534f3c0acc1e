-- `same_stretch` meets its contract: what it has gone over agrees as long as no byte differed.
use Rattle.std.proofs.Common.{◌≡◌, true, ◌≤◌}
use Rattle.overlay.specs.Runs.{AgreeOn}
use Rattle.overlay.proofs.Images.same_stretch.Given as goal

abbrev pub invariant-loop-j : goal.invariant-loop-j
invariant-loop-j l = (l.j ≤ 64) × (l.ok ≡ true → AgreeOn l.self.overlay.now l.self.released.now l.at l.j)
