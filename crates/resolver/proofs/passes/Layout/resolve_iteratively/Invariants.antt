-- Every pass before n is unresolved. Past the rows the passes repeat themselves, so that the loop may end before the limit.
use Prim.Native.Nat.{◌+◌, ◌-◌, ◌≤◌}
use Rattle.resolver.specs.Ends.{Unsettled}
use Rattle.resolver.specs.Passes.{pass_at}
use Rattle.resolver.proofs.passes.Layout.resolve_iteratively.Given as goal

abbrev pub invariant-loop-n : goal.invariant-loop-n
invariant-loop-n l = (1 ≤ l.n) × (l.n ≤ l.m) × (l.n ≤ l.self.lists.rows + 2) × Unsettled (pass_at l.self.banks l.self.lists) l.n

abbrev pub decreases-loop-n : goal.decreases-loop-n
decreases-loop-n l = l.m - l.n
