-- `write_banks` meets its contract: the banks passed stand in the buffer, and those left have room.
use Prim.Native.Nat.{◌+◌, ◌*◌, ◌≤◌}
use Rattle.print_text.specs.Puts.{Writes}
use Rattle.print_map.specs.Text.{banks_text}
use Rattle.print_map.proofs.records.write_banks.Given as goal

abbrev pub invariant-loop-i : goal.invariant-loop-i
invariant-loop-i l = (l.end ≤ l.at + 230 * l.i) × Writes (banks_text l.banks l.fn.padding l.i) l.initial.out l.at l.end l.out
