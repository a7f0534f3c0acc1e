-- `record_write::text_room`: what holds between two blocks is `AllAdding`.
use Rattle.std.proofs.Common.{length}
use Rattle.record_write.proofs.TextRoom.{AllAdding}
use Rattle.record_write.proofs.Job.text_room.Given as goal

abbrev pub invariant-loop-offset : goal.invariant-loop-offset
invariant-loop-offset l = AllAdding l.self.format l.self.image.now l.self.offsets.now l.self.sizes.now l.self.load l.place (length l.yielded)
