-- `list_stretch` meets its contract: each turn takes the next run, by the laws of `Filling`.
use mathlib.Core.Bool.{false}
use Prim.Native.Nat.{◌-◌, ◌≤◌}
use Rattle.blocks.specs.Laws.Put.{Filling}
use Rattle.overlay.specs.Runs.{differ, runs_from}
use Rattle.overlay.proofs.Images.list_stretch.Given as goal

abbrev pub invariant-loop-at : goal.invariant-loop-at
invariant-loop-at l = (l.n ≤ l.at)
    × Filling (runs_from (differ l.self.overlay.now l.self.released.now) l.from (l.self.to - l.from) false)
    (runs_from (differ l.self.overlay.now l.self.released.now) l.at (l.self.to - l.at) false) l.count l.n l.initial.firsts l.initial.counts l.firsts l.counts

abbrev pub decreases-loop-at : goal.decreases-loop-at
decreases-loop-at l = l.self.to - l.at
