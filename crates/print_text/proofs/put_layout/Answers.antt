-- `print_text::put_layout` meets its contract: measured first, then written.
use native.Mathlib.Omega.{arith}
use lib.ListN.{length}
use Rattle.print_text.specs.Lines.{layout_text}
use Rattle.print_text.specs.Laws.Ends.{fits-of, puts-writes}
use Rattle.print_text.proofs.put_layout.Goals as goal

pub returns : goal.returns
returns c =
    let a = c.args in
    let fits = fits-of (length a.out.now) a.at (length (layout_text a.k a.count a.offsets.now a.sizes.now a.hex.now)) c.layout_end.ensures c.in_ok-layout_end.was in
    puts-writes (omega arith) c.write_layout.ensures
