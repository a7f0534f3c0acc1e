-- `print_text::write_layout` meets its contract: the three parts, one behind the other.
use Rattle.print_text.specs.Laws.Sets.{writes_then}
use Rattle.print_text.proofs.write_layout.Goals as goal

pub returns : goal.returns
returns c =
    writes_then (writes_then c.write_line-first.ensures
    c.write_blocks-second.ensures) c.write_image.ensures
