-- `walk` meets its contract: each turn takes one byte, by the laws of `Walking`.
use Prim.Native.Nat.{◌≤◌}
use lib.ListN.{length}
use mathlib.Core.Path.{◌≡◌}
use Rattle.verify.specs.Runs.{readback}
use Rattle.verify.proofs.Walking.{Walking}
use Rattle.verify.proofs.walk.Given as goal

abbrev pub invariant-loop-b : goal.invariant-loop-b
invariant-loop-b l = (l.b ≤ length l.wanted)
    × Walking (readback l.image.bytes.now l.image.offsets.now l.image.sizes.now l.given.bytes.now l.given.offsets.now l.given.sizes.now)
    l.initial.columns.firsts.now l.initial.columns.counts.now l.initial.columns.kinds.now
    l.columns.firsts.now l.columns.counts.now l.columns.kinds.now l.at l.given_at l.kind l.first l.n l.b
    × (l.columns.firsts.ghost_name ≡ l.initial.columns.firsts.ghost_name)
    × (l.columns.counts.ghost_name ≡ l.initial.columns.counts.ghost_name)
    × (l.columns.kinds.ghost_name ≡ l.initial.columns.kinds.ghost_name)
