-- `record_write::write_blocks`: what holds between two blocks is `AllGoing`.
use Rattle.std.proofs.Common.{length}
use Rattle.record_write.proofs.AllBlocks.{AllGoing}
use Rattle.record_write.proofs.Job.write_blocks.Given as goal

abbrev pub invariant-loop-offset : goal.invariant-loop-offset
invariant-loop-offset l = AllGoing l.self.format l.self.image.now l.self.offsets.now l.self.sizes.now l.self.load l.initial.text l.place (length l.yielded) l.text
