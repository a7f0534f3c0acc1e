-- `record_write::block_room`: what holds between two pieces is `Adding`.
use Rattle.std.proofs.Common.{◌-◌}
use Rattle.record_write.proofs.TextRoom.{Adding}
use Rattle.record_write.proofs.block_room.Given as goal

abbrev pub invariant-loop-k : goal.invariant-loop-k
invariant-loop-k l = Adding l.format l.address l.count l.initial.at l.initial.state l.at l.state l.here l.k

abbrev pub decreases-loop-k : goal.decreases-loop-k
decreases-loop-k l = l.count - l.k
