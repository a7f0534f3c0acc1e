-- `print_text::put_blocks` meets its contract: measured first, then written.
use native.Mathlib.Omega.{arith}
use lib.ListN.{length}
use Rattle.print_text.specs.Lines.{blocks_text}
use Rattle.print_text.specs.Laws.Ends.{fits-of, puts-writes}
use Rattle.print_text.proofs.put_blocks.Goals as goal

pub returns : goal.returns
returns c =
    let a = c.args in
    let fits = fits-of (length a.out.now) a.at (length (blocks_text a.count a.offsets.now a.sizes.now)) c.blocks_end.ensures c.in_ok-blocks_end.was in
    puts-writes (omega arith) c.write_blocks.ensures
