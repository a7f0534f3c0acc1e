-- `record_read::next_bit`: no bit that was passed is the one that is looked for.
use Prim.Native.Nat.{◌-◌, ◌*◌}
use lib.ListN.{length}
use Rattle.record_read.proofs.Scratch.{Seeking}
use Rattle.record_read.proofs.next_bit.Given as goal

abbrev pub invariant-loop-j : goal.invariant-loop-j
invariant-loop-j l = Seeking l.scratch l.want l.from l.j

abbrev pub decreases-loop-j : goal.decreases-loop-j
decreases-loop-j l = 8 * length l.scratch - l.j
