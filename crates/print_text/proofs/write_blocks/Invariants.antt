-- `print_text::write_blocks` meets its contract. The invariant: the lines of the blocks passed stand in the buffer.
use lib.ListN.{length}
use Rattle.print_text.specs.Puts.{Writes}
use Rattle.print_text.specs.Lines.{blocks_text}
use Rattle.print_text.proofs.write_blocks.Given as goal

abbrev pub invariant-loop-offset : goal.invariant-loop-offset
invariant-loop-offset l = Writes (blocks_text (length l.yielded) l.offsets l.sizes) l.initial.out l.at l.end l.out
