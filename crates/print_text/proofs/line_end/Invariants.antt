-- `print_text::line_end` meets its contract. The invariant: what is measured and what is left come to the line, and what is measured fits.
use Prim.Native.Nat.{◌+◌, ◌≤◌}
use mathlib.Core.Path.{◌≡◌}
use lib.ListN.{length, drop}
use Rattle.print_text.specs.Lines.{spaced}
use Rattle.print_text.proofs.line_end.Given as goal

abbrev pub invariant-loop-n : goal.invariant-loop-n
invariant-loop-n l =
    (l.at + (l.word + length (spaced l.numbers) + 1) ≡ l.end + length (spaced (drop l.n-index l.numbers)) + 1)
    × (l.end ≤ l.size)
