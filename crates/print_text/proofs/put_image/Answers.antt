-- `print_text::put_image` meets its contract: measured first, then written.
use native.Mathlib.Omega.{arith}
use lib.ListN.{length}
use Rattle.print_text.specs.Laws.Ends.{fits-of, puts-writes}
use Rattle.print_text.proofs.put_image.Goals as goal

pub returns : goal.returns
returns c =
    let a = c.args in
    let fits = fits-of (length a.out.now) a.at c.image_length.result
    c.end_of.ensures c.in_ok-end_of.was in
    puts-writes (omega arith) c.write_image.ensures
