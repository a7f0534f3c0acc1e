-- `write_walk` meets its contract. The loop's invariant is `Writing`: each node is written by a law of WritingSteps.
use Prim.Native.Nat.{◌-◌}
use lib.ListN.{length}
use Rattle.nodes.specs.Lists.{row_with}
use Rattle.resolver.specs.Once.{program_with}
use Rattle.build_write.proofs.WritingSteps.{Writing}
use Rattle.build_write.proofs.write_walk.Given as goal

abbrev pub invariant-loop-i : goal.invariant-loop-i
invariant-loop-i l = Writing (program_with l.banks l.kinds l.operands l.first) (row_with l.numbers l.states) l.values l.initial.image l.initial.addresses l.initial.offsets l.initial.sizes l.i l.walk l.count
    l.image l.addresses l.offsets l.sizes

abbrev pub decreases-loop-i : goal.decreases-loop-i
decreases-loop-i l = length l.kinds - l.i
