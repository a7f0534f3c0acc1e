-- `record_read::File::fill_line`: after j turns the first j bytes are stored.
use mathlib.Core.Path.{◌≡◌}
use mathlib.Core.List.{[], ◌∷◌}
use Rattle.record_lines.specs.Digits.{bytes_at}
use Rattle.record_lines.specs.Pieces.{piece}
use Rattle.record_read.specs.Given.{filled}
use Rattle.record_read.proofs.File.fill_line.Given as goal

abbrev pub invariant-loop-j : goal.invariant-loop-j
invariant-loop-j l =
    l.bytes ≡ filled l.self.load (piece l.fn.line.address (bytes_at l.characters l.fn.line.first l.j) ∷ []) l.initial.bytes
