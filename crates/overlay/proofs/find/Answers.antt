-- `find` meets its contract: the blocks are in order, so those that start before a byte end before it, but for the last.
use Rattle.std.proofs.Common.{sym, arith, rules, tests}
use Rattle.overlay.specs.Laws.Order.{row}
use Rattle.overlay.proofs.BlockLaws.{starts-found, finds-all, finds-last}
use Rattle.overlay.proofs.find.Goals as goal

pub returns-then-begun-eq0 : goal.returns-then-begun-eq0
returns-then-begun-eq0 c =
    let a = c.args in
    let r = row 0 a.offsets.now a.sizes.now c.requires in
    let begun = c.partition_point-begun in
    rw (sym c.if-begun-eq0.true)
    (finds-all a.offsets.now a.sizes.now r a.first begun.result begun.ensures.bound
    (starts-found a.offsets.now a.sizes.now r a.first begun.result begun.ensures.partitioned (λ x q f k. search (rules, tests)))
    (λ some. absurd (omega (arith, c.if-begun-eq0.true))))

pub bounds-sizes-last : goal.bounds-sizes-last
bounds-sizes-last c =
    omega (arith, (row 0 c.args.offsets.now c.args.sizes.now c.requires).paired, c.partition_point-begun.ensures.bound, c.if-begun-eq0.false)

pub returns-then-begun_bytes-first : goal.returns-then-begun_bytes-first
returns-then-begun_bytes-first c =
    let a = c.args in
    let r = row 0 a.offsets.now a.sizes.now c.requires in
    let begun = c.partition_point-begun in
    finds-all a.offsets.now a.sizes.now r a.first begun.result begun.ensures.bound
    (starts-found a.offsets.now a.sizes.now r a.first begun.result begun.ensures.partitioned (λ x q f k. search (rules, tests)))
    (λ some. omega (arith, c.begun_bytes.ensures, c.if-begun_bytes-first.true))

pub returns : goal.returns
returns c =
    let a = c.args in
    let r = row 0 a.offsets.now a.sizes.now c.requires in
    let begun = c.partition_point-begun in
    finds-last a.offsets.now a.sizes.now r a.first begun.result begun.ensures.bound
    (starts-found a.offsets.now a.sizes.now r a.first begun.result begun.ensures.partitioned (λ x q f k. search (rules, tests)))
    (omega (arith, c.if-begun-eq0.false)) (omega (arith, c.begun_bytes.ensures, c.if-begun_bytes-first.false))
