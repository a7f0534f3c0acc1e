-- `record_extent::lowest`: after k lines it is the lowest address of what they give.
use Prim.Native.Nat.{◌-◌}
use Rattle.record_extent.proofs.Laws.{Sinking}
use Rattle.record_extent.proofs.lowest.Given as goal

abbrev pub invariant-loop : goal.invariant-loop
invariant-loop l = Sinking l.format l.text l.n l.at l.state l.low l.counter

abbrev pub decreases-loop : goal.decreases-loop
decreases-loop l = l.n - l.counter
