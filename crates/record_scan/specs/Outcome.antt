-- What a caller is told of a file.
use Rattle.std.specs.Prelude.{Option, ℕ, None, Some}
use Rattle.record_scan.specs.Reading.{Read, sound, faulty}

abbrev pub fault_of : Read → Option ℕ
fault_of (sound pieces) = None
fault_of (faulty line) = Some line
