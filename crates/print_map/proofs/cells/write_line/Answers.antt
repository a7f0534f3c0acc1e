-- `write_line` meets its contract: the word, the cells and LF, one behind the other.
use Rattle.print_text.specs.Laws.Sets.{writes_then}
use Rattle.print_map.proofs.cells.write_line.Goals as goal

pub returns-clause-writes : goal.returns-clause-writes
returns-clause-writes c =
    let cells = c.write_cells-end.ensures in writes_then (writes_then c.write_word-middle.ensures cells.writes) c.write_word.ensures
