-- `load_file` meets its contract: a file that is too long is refused at once, and every other one is read.
use native.Mathlib.Omega.{arith}
use Rattle.record_read.specs.Outcome.{lent}
use Rattle.print_bench.specs.Laws.Loading.{too_long, loaded}
use Rattle.print_bench.proofs.load_file.Goals as goal

pub returns-then-source-ge-SOURCE : goal.returns-then-source-ge-SOURCE
returns-then-source-ge-SOURCE c =
    too_long c.args.load c.args.bytes.now c.args.source.now (omega (arith, c.if-source-ge-SOURCE.true))

pub returns : goal.returns
returns c =
    loaded c.args.load (lent c.args.bytes.now c.args.offsets.now c.args.sizes.now _) c.requires.bytes_len c.requires.offsets_len.0
    c.requires.offsets_len.1 c.args.source.now
    (omega (arith, c.if-source-ge-SOURCE.false)) c.read.result
    (lent c.read.new.bytes c.read.new.offsets c.read.new.sizes _) c.read.ensures
