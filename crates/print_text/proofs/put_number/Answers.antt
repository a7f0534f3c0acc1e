-- `print_text::put_number` meets its contract: measured first, then written.
use native.Mathlib.Omega.{arith}
use lib.ListN.{length}
use Rattle.print_text.specs.Laws.Ends.{fits-of, puts-writes}
use Rattle.print_text.proofs.put_number.Goals as goal

pub returns : goal.returns
returns c =
    let a = c.args in
    let fits = fits-of (length a.out.now) a.at c.decimal_length.result
    c.end_of.ensures c.in_ok-end_of.was in
    puts-writes (omega arith) c.write_number.ensures
