-- `plan_walk` meets its contract. The loop's invariant is `Going`: each node is met by a law of PlanLaws.
use Prim.Native.Nat.{◌-◌}
use lib.ListN.{length}
use Rattle.nodes.specs.Lists.{row_with}
use Rattle.resolver.specs.Once.{program_with}
use Rattle.overlap_checker.specs.Lent.{lent as store}
use Rattle.build_plan.proofs.PlanLaws.{Going}
use Rattle.build_plan.proofs.plan_walk.Given as goal

abbrev pub invariant-loop-i : goal.invariant-loop-i
invariant-loop-i l = Going (program_with l.banks l.kinds l.operands l.first) (row_with l.numbers l.states) l.closed l.fill l.i l.walk
    (store l.stored.positions l.stored.sizes l.stored.count l.stored.marks l.stored.mark_count) l.sums

abbrev pub decreases-loop-i : goal.decreases-loop-i
decreases-loop-i l = length l.kinds - l.i
