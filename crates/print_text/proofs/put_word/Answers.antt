-- `print_text::put_word` meets its contract: measured first, then written.
use native.Mathlib.Omega.{arith}
use lib.ListN.{length}
use Rattle.print_text.specs.Laws.Ends.{fits-of, puts-writes}
use Rattle.print_text.proofs.put_word.Goals as goal

pub returns : goal.returns
returns c =
    let a = c.args in
    let fits = fits-of (length a.out.now) a.at (length a.word.now) c.end_of.ensures
    c.in_ok-end_of.was in
    puts-writes (omega arith) c.write_word.ensures
