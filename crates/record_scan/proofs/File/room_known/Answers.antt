-- `record_scan::File::room_known`: above all others, below them, or in the gap; or the lines are read again, or it is not known.
use mathlib.Core.List.{List}
use mathlib.Core.Path.{sym, ◌∙◌}
use lib.Dec.{leb}
use borrow.Author.Tests.{leb-true}
use Rattle.prelude.specs.Laws.Bools.{both}
use Rattle.record_lines.specs.Pieces.{Piece}
use Rattle.record_scan.specs.Trail.{trail}
use Rattle.record_scan.proofs.Laws.{room-high, room-low, room-gap, room-known}
use Rattle.record_scan.proofs.File.room_known.Goals as goal

pub returns-then-high-first : goal.returns-then-high-first
returns-then-high-first c =
    -- the pieces given before the line
    let pieces : List Piece =
    (trail c.args.self.now.format c.args.self.now.text.now c.args.n).given in
    room-known (pieces) c.args.first c.args.end c.requires.good.1 c.args.look
    (room-high (pieces) c.args.first c.args.end c.requires.good.1 c.args.high c.requires.high_value.0 c.if-high-first.true)

pub returns-then-end-free : goal.returns-then-end-free
returns-then-end-free c =
    -- the pieces given before the line
    let pieces : List Piece =
    (trail c.args.self.now.format c.args.self.now.text.now c.args.n).given in
    room-known (pieces) c.args.first c.args.end c.requires.good.1 c.args.look
    (room-low (pieces) c.args.first c.args.end c.requires.good.1 c.args.free.low c.requires.high_value.1.below c.if-end-free.true)

pub returns-then-holds : goal.returns-then-holds
returns-then-holds c =
    -- the pieces given before the line
    let pieces : List Piece =
    (trail c.args.self.now.format c.args.self.now.text.now c.args.n).given in
    let a = c.args in
    let two = both (leb a.free.edge a.first) (leb a.end a.free.top) (sym c.holds.ensures ∙ c.if-holds.true) in
    room-known (pieces) a.first a.end c.requires.good.1 a.look
    (room-gap (pieces) a.first a.end c.requires.good.1 a.free.edge a.free.top c.requires.high_value.1.gap (leb-true a.free.edge a.first two.0)
    (leb-true a.end a.free.top two.1))
