-- `record_read::File::take`: the blocks are counted first, and something is stored only where there is room for everything.
use mathlib.Core.List.{List}
use Rattle.record_lines.specs.Pieces.{Piece}
use Rattle.record_scan.specs.Trail.{trail}
use Rattle.record_read.proofs.Room.{reads_all}
use Rattle.record_read.proofs.File.take.Goals as goal

pub returns : goal.returns
returns c =
    let pieces : List Piece =
    (trail c.args.self.now.format c.args.self.now.text.now c.args.self.now.n).given in
    let a = c.args in
    let f = a.self.now in
    reads_all f.load (pieces) a.bytes.now a.offsets.now a.sizes.now a.scratch.now f.end c.args.self.now.ready.ends c.if-bytes-self.false
    c.count_blocks-count.result c.count_blocks-count.ensures.0 c.count_blocks-count.ensures.1 c.if-offsets-count.false c.if-sizes-count.false c.store.ensures
