-- What a call that reads tells, and what it leaves: of every outcome that meets its contract.
use Rattle.std.specs.Prelude.{◌≡◌, List}
use Rattle.record_lines.specs.Pieces.{Piece}
use Rattle.record_scan.specs.Reading.{Read, sound}

-- ---- which answer when

abbrev pub Good : Read → (List Piece → Type 0) → Type 0
Good read P = (pieces : List Piece) × (read ≡ sound pieces) × P pieces
