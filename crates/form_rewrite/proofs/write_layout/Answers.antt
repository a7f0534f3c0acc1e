-- `form_rewrite::write_layout` meets its contract: the nodes, the rows, and the file from its values on, one behind the other.
use Rattle.print_text.specs.Laws.Sets.{writes_then}
use Rattle.form_rewrite.proofs.write_layout.Goals as goal

pub returns : goal.returns
returns c =
    writes_then c.write_nodes-end.ensures.writes (writes_then c.write_fields-last.ensures.writes c.write_word.ensures)
