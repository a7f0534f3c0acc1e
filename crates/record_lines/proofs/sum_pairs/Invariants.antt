-- `record_lines::sum_pairs`: the low byte of the sum so far.
use Rattle.std.proofs.Common.{◌≡◌, ◌-◌, ◌%◌, ◌≤◌}
use Rattle.record_lines.specs.Digits.{bytes_at}
use Rattle.record_lines.specs.Sums.{sum_of}
use Rattle.record_lines.proofs.sum_pairs.Given as goal

abbrev pub invariant-loop-j : goal.invariant-loop-j
invariant-loop-j l = (l.j ≤ l.count) × (l.sum ≡ sum_of (bytes_at l.line l.start l.j) % 256)

abbrev pub decreases-loop-j : goal.decreases-loop-j
decreases-loop-j l = l.count - l.j
