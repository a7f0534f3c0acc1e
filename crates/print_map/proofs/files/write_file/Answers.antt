-- `write_file` meets its contract.
use Rattle.print_text.specs.Ascii.{ascii}
use Rattle.print_map.proofs.Lines.{five-numbers, written_as}
use Rattle.print_map.proofs.files.write_file.Goals as goal

pub returns-clause-writes : goal.returns-clause-writes
returns-clause-writes c =
    written_as (five-numbers (ascii "file") _ _ _ _ _) c.write_line.ensures.writes
