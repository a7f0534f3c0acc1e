-- `walk` meets its contract: each turn takes a chain of touching blocks, by the laws of `WalkLaws`.
use Prim.Native.Nat.{◌-◌, ◌≤◌}
use lib.ListN.{length}
use Rattle.overlay.specs.Trial.{trial}
use Rattle.overlay.proofs.WalkLaws.{Walking}
use Rattle.overlay.proofs.walk.Given as goal

abbrev pub invariant-loop-i : goal.invariant-loop-i
invariant-loop-i l = (l.i ≤ length l.offsets) × Walking
    (trial l.overlay l.released l.offsets l.sizes) l.i l.count l.initial.firsts l.initial.counts l.firsts l.counts

abbrev pub decreases-loop-i : goal.decreases-loop-i
decreases-loop-i l = length l.offsets - l.i
