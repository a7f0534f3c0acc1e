-- `write_cells` meets its contract: the cells passed stand in the buffer, and those left have room.
use Prim.Native.Nat.{◌+◌, ◌*◌, ◌≤◌}
use lib.ListN.{length}
use Rattle.print_text.specs.Puts.{Writes}
use Rattle.print_map.specs.Marks.{cells_to}
use Rattle.print_map.proofs.cells.write_cells.Given as goal

abbrev pub invariant-loop-mark : goal.invariant-loop-mark
invariant-loop-mark l = (length l.yielded ≤ length l.numbers)
    × (l.end ≤ l.at + 22 * length l.yielded)
    × Writes (cells_to l.marks l.numbers (length l.yielded)) l.initial.out l.at l.end l.out
