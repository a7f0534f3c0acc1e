-- `print_text::write_number` meets its contract. The invariant: what stands from the next place on is the end of the number's digits, and
-- the digits of what is left are those before it.
use Rattle.print_text.proofs.Digits.{Digits}
use Rattle.print_text.proofs.write_number.Given as goal

abbrev pub invariant-loop-left : goal.invariant-loop-left
invariant-loop-left l = Digits l.initial.out l.at l.n l.out l.left l.i

abbrev pub decreases-loop-left : goal.decreases-loop-left
decreases-loop-left l = l.left
