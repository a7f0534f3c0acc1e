-- `record_reason::File::lowest`: the lowest so far, and what is left.
use Prim.Native.Nat.{◌-◌}
use lib.ListN.{length}
use Rattle.record_reason.proofs.Walks.{Sinking}
use Rattle.record_reason.proofs.File.lowest.Given as goal

abbrev pub invariant-loop-at : goal.invariant-loop-at
invariant-loop-at l = Sinking l.self.format l.self.text.now l.at l.state l.low

abbrev pub decreases-loop-at : goal.decreases-loop-at
decreases-loop-at l = length l.self.text.now - l.at
