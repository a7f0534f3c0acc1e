-- `record_write::write_block`: what holds between two pieces is `Going`.
use Rattle.std.proofs.Common.{◌-◌}
use Rattle.record_write.proofs.BlockTurns.{Going}
use Rattle.record_write.proofs.write_block.Given as goal

abbrev pub invariant-loop-k : goal.invariant-loop-k
invariant-loop-k l = Going l.format l.image l.start l.end l.address l.initial.at l.initial.state l.initial.text l.at l.state l.here l.k l.text

abbrev pub decreases-loop-k : goal.decreases-loop-k
decreases-loop-k l = l.end - l.k
