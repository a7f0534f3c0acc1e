-- `record_scan::File::may_stand`: the definition's tests in its order.
use mathlib.Core.List.{List}
use native.Mathlib.Omega.{arith}
use Rattle.record_lines.specs.Pieces.{Piece}
use Rattle.record_scan.specs.Trail.{trail}
use Rattle.record_scan.proofs.Laws.{admit-fine, admit-loose}
use Rattle.record_scan.proofs.File.may_stand.Goals as goal

pub returns-then-top-eq-UNKNOWN : goal.returns-then-top-eq-UNKNOWN
returns-then-top-eq-UNKNOWN c =
    -- the pieces given before the line
    let pieces : List Piece =
    (trail c.args.self.now.format c.args.self.now.text.now c.args.n).given in
    let a = c.args in
    admit-loose a.look a.load (pieces) a.line.kind a.line.address a.line.count a.high a.free.edge
    c.if-line-ne-DATA.false c.if-line-eq0.false (omega arith) c.if-end-gt4294967296.false c.max.result c.max.ensures
    (λ z. ((c.room_known-top.ensures.0 z).1 (omega (arith, c.if-top-eq0.false))).0)

pub returns : goal.returns
returns c =
    -- the pieces given before the line
    let pieces : List Piece =
    (trail c.args.self.now.format c.args.self.now.text.now c.args.n).given in
    let a = c.args in
    admit-fine a.look a.load (pieces) a.line.kind a.line.address a.line.count a.high a.free.edge
    c.if-line-ne-DATA.false c.if-line-eq0.false (omega arith) c.if-end-gt4294967296.false c.max-2.result c.room_known-top.result
    c.max-2.ensures
    ((c.room_known-top.ensures.1 c.if-top-eq-UNKNOWN.false).1 (omega (arith, c.if-top-eq0.false)))
