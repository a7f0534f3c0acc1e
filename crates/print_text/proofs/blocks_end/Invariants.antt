-- `print_text::blocks_end` meets its contract. The invariant: the lines of the blocks passed end where the next begins.
use Prim.Native.Nat.{◌+◌}
use mathlib.Core.Path.{◌≡◌}
use lib.ListN.{length}
use Rattle.print_text.specs.Lines.{blocks_text}
use Rattle.print_text.proofs.blocks_end.Given as goal

abbrev pub invariant-loop-offset : goal.invariant-loop-offset
invariant-loop-offset l = l.end ≡ l.at + length (blocks_text (length l.yielded) l.offsets l.sizes)
