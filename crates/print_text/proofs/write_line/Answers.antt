-- `print_text::write_line` meets its contract: the word, the numbers and LF, one behind the other.
use mathlib.Core.List.{◌++◌}
use Rattle.print_text.specs.Puts.{Writes}
use Rattle.print_text.specs.Lines.{spaced}
use Rattle.print_text.specs.Laws.Sets.{writes_then, writes_byte}
use Rattle.print_text.proofs.write_line.Goals as goal

pub returns : goal.returns
returns c =
    -- the word and the numbers are written, and LF has room behind them
    let both : Writes (c.args.word.now ++
    spaced c.args.numbers.now)
    c.args.out.now
    c.args.at c.write_numbers-end.result
    c.write_numbers-end.new.out =
    writes_then c.write_word-middle.ensures c.write_numbers-end.ensures in
    writes_then (both) (writes_byte 10)
