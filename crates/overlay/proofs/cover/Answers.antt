-- `cover` meets its contract: one law of `CoverLaws` for each answer.
use native.Mathlib.Omega.{arith}
use Rattle.overlay.specs.Laws.Order.{Row, row}
use Rattle.overlay.proofs.CoverLaws.{none_left, next-behind, starts-later, ends-early, covers-all}
use Rattle.overlay.proofs.cover.Goals as goal

pub returns-then-offsets-at : goal.returns-then-offsets-at
returns-then-offsets-at c =
    let in_row : Row 0 c.args.offsets.now c.args.sizes.now =
    row 0 c.args.offsets.now c.args.sizes.now c.requires.0 in
    none_left c.args.offsets.now c.args.sizes.now c.args.first c.args.end c.find-at.result in_row c.find-at.ensures c.requires.1
    c.if-offsets-at.true

pub returns-then-end-start : goal.returns-then-end-start
returns-then-end-start c =
    let in_row : Row 0 c.args.offsets.now c.args.sizes.now =
    row 0 c.args.offsets.now c.args.sizes.now c.requires.0 in
    next-behind c.args.offsets.now c.args.sizes.now c.args.first c.args.end c.find-at.result in_row c.find-at.ensures c.requires.1
    c.if-offsets-at.false c.if-end-start.true

pub returns-then-first-begun_bytes : goal.returns-then-first-begun_bytes
returns-then-first-begun_bytes c =
    let in_row : Row 0 c.args.offsets.now c.args.sizes.now =
    row 0 c.args.offsets.now c.args.sizes.now c.requires.0 in
    starts-later c.args.offsets.now c.args.sizes.now c.args.first c.args.end c.find-at.result in_row c.find-at.ensures c.requires.1
    c.if-offsets-at.false c.if-end-start.false
    (omega (arith, c.begun_bytes.ensures, c.if-first-begun_bytes.true))

pub chain_end-last-requires : goal.chain_end-last-requires
chain_end-last-requires c =
    let in_row : Row 0 c.args.offsets.now c.args.sizes.now =
    row 0 c.args.offsets.now c.args.sizes.now c.requires.0 in
    (in_row.paired, c.if-offsets-at.false)

pub bounds-sizes-last : goal.bounds-sizes-last
bounds-sizes-last c =
    let in_row : Row 0 c.args.offsets.now c.args.sizes.now =
    row 0 c.args.offsets.now c.args.sizes.now c.requires.0 in
    omega (arith, c.chain_end-last.ensures.one, in_row.paired)

pub returns-then-whole_bytes-end : goal.returns-then-whole_bytes-end
returns-then-whole_bytes-end c =
    let in_row : Row 0 c.args.offsets.now c.args.sizes.now =
    row 0 c.args.offsets.now c.args.sizes.now c.requires.0 in
    ends-early c.args.offsets.now c.args.sizes.now c.args.first c.args.end c.find-at.result in_row c.find-at.ensures c.requires.1
    c.if-offsets-at.false
    (omega (arith, c.begun_bytes.ensures, c.if-first-begun_bytes.false)) c.chain_end-last.result c.chain_end-last.ensures
    (omega (arith, c.whole_bytes.ensures, c.if-whole_bytes-end.true))

pub returns : goal.returns
returns c =
    let in_row : Row 0 c.args.offsets.now c.args.sizes.now =
    row 0 c.args.offsets.now c.args.sizes.now c.requires.0 in
    covers-all c.args.offsets.now c.args.sizes.now c.args.first c.args.end c.find-at.result in_row c.find-at.ensures c.requires.1
    c.if-offsets-at.false
    (omega (arith, c.begun_bytes.ensures, c.if-first-begun_bytes.false)) c.chain_end-last.result c.chain_end-last.ensures
    (omega (arith, c.whole_bytes.ensures, c.if-whole_bytes-end.false))
