-- `record_lines::sum_checked`: the low byte of the sum so far, and that what is left decides as the whole does, by a table that spells the digits.
use Rattle.std.proofs.Common.{◌≡◌, ◌+◌, ◌*◌, ◌%◌, drop}
use Rattle.record_lines.specs.Digits.{all_digits, bytes_at}
use Rattle.record_lines.specs.Spelling.{Spells}
use Rattle.record_lines.specs.Sums.{sum_of}
use Rattle.record_lines.proofs.sum_checked.Given as goal

abbrev pub invariant-loop-pair : goal.invariant-loop-pair
invariant-loop-pair l =
    Spells l.t
    → (l.sum ≡ sum_of (bytes_at l.line l.from l.pair-index) % 256)
    × (all_digits (drop l.from l.line) ≡ all_digits (drop (l.from + 2 * l.pair-index) l.line))
