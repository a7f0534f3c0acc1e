-- `print_text::write_numbers` meets its contract. The invariant: the numbers passed stand in the buffer, and those left have room.
use Prim.Native.Nat.{◌+◌}
use mathlib.Core.Path.{◌≡◌}
use lib.ListN.{length, take, drop}
use Rattle.print_text.specs.Lines.{spaced}
use Rattle.print_text.specs.Puts.{Writes}
use Rattle.print_text.proofs.write_numbers.Given as goal

abbrev pub invariant-loop-n : goal.invariant-loop-n
invariant-loop-n l =
    (l.end + length (spaced (drop l.n-index l.numbers)) ≡ l.at + length (spaced l.numbers))
    × Writes (spaced (take l.n-index l.numbers)) l.initial.out l.at l.end l.out
