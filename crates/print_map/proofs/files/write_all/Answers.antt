-- `write_all` meets its contract: the records one behind the other, each with room.
use Rattle.print_text.specs.Laws.Sets.{writes_then}
use Rattle.print_map.proofs.files.write_all.Goals as goal

pub returns-clause-writes : goal.returns-clause-writes
returns-clause-writes c =
    writes_then
    (writes_then (writes_then (writes_then c.write_file-a.ensures.writes c.write_banks-b.ensures.writes) c.write_nodes-c.ensures.writes)
    c.write_fault-d.ensures.writes)
    c.write_verdict.ensures.writes
