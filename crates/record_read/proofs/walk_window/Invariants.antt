-- `record_read::walk_window`: each turn goes on by the next run of scratch.
use Prim.Native.Nat.{◌-◌, ◌*◌}
use lib.ListN.{length}
use Rattle.record_read.proofs.Scratch.{Passing}
use Rattle.record_read.proofs.walk_window.Given as goal

abbrev pub invariant-loop-j : goal.invariant-loop-j
invariant-loop-j l = Passing l.scratch l.from l.initial.walk l.initial.offsets l.initial.sizes l.walk l.j l.offsets l.sizes

abbrev pub decreases-loop-j : goal.decreases-loop-j
decreases-loop-j l = 8 * length l.scratch - l.j
