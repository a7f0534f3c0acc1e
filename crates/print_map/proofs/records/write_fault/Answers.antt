-- `write_fault` meets its contract.
use mathlib.Core.Path.{sym, ap, ◌∙◌}
use Rattle.print_text.specs.Ascii.{ascii}
use Rattle.print_map.specs.Text.{fault_text}
use Rattle.print_map.proofs.Lines.{one_number, written_as}
use Rattle.print_map.proofs.records.write_fault.Goals as goal

pub returns-in-Some-clause-writes : goal.returns-in-Some-clause-writes
returns-in-Some-clause-writes c =
    written_as (one_number (ascii "fault") _ ∙ sym (ap fault_text c.in-Some.is))
    c.write_line.ensures.writes
