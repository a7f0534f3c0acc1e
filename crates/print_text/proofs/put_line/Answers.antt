-- `print_text::put_line` meets its contract: measured first, then written.
use native.Mathlib.Omega.{arith}
use lib.ListN.{length}
use Rattle.print_text.specs.Laws.Ends.{fits-of, puts-writes}
use Rattle.print_text.specs.Lines.{spaced}
use Rattle.print_text.specs.Laws.Lengths.{line-length}
use Prim.Native.Nat.{◌+◌}
use Rattle.print_text.proofs.put_line.Goals as goal

pub returns : goal.returns
returns c =
    let a = c.args in
    let whole = line-length a.word.now a.numbers.now in
    let fits = fits-of (length a.out.now) a.at (length a.word.now + length (spaced a.numbers.now) + 1)
    c.line_end.ensures c.in_ok-line_end.was in
    puts-writes (omega arith) c.write_line.ensures
