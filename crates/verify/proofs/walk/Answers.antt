use Rattle.std.proofs.Common.{refl, arith, rules}
use Rattle.verify.specs.Runs.{Readback, readback}
use Rattle.verify.proofs.Walking.{kind-is, walking-starts, walking_on, walking-ends}
use Rattle.verify.proofs.walk.Goals as goal

pub loop-b-init : goal.loop-b-init
loop-b-init c =
    let lent : Readback =
    readback c.args.image.now.bytes.now c.args.image.now.offsets.now c.args.image.now.sizes.now
    c.args.given.now.bytes.now c.args.given.now.offsets.now c.args.given.now.sizes.now in
    let lists = c.args.columns.now in (
      omega arith,
      walking-starts lent lists.firsts.now lists.counts.now lists.kinds.now c.args.image.now.sound c.args.given.now.sound,
      refl,
      refl,
      refl,
    )

pub loop-b-preserved : goal.loop-b-preserved
loop-b-preserved c =
    let lent : Readback =
    readback c.args.image.now.bytes.now c.args.image.now.offsets.now c.args.image.now.sizes.now
    c.args.given.now.bytes.now c.args.given.now.offsets.now c.args.given.now.sizes.now in (
      omega (arith, c.loop-b-test.true),
      walking_on lent c.args.columns.now.firsts.now c.args.columns.now.counts.now c.args.columns.now.kinds.now c.loop-b-test.true c.loop-b.invariant.1
          (kind-is lent c.loop-b.b c.kind_by-next.ensures c.has_at-asked.ensures c.has_at-is_given.ensures refl c.byte_at.ensures)
          c.close-n.ensures.put.0 c.close-n.ensures.put.1 c.started_at-first.ensures c.move_on-at.ensures c.move_on-given_at.ensures,
      search rules,
      search rules,
      search rules,
    )

pub returns-clause-put : goal.returns-clause-put
returns-clause-put c =
    let lent : Readback =
    readback c.args.image.now.bytes.now c.args.image.now.offsets.now c.args.image.now.sizes.now
    c.args.given.now.bytes.now c.args.given.now.offsets.now c.args.given.now.sizes.now in
    walking-ends lent c.args.columns.now.firsts.now c.args.columns.now.counts.now c.args.columns.now.kinds.now c.loop-b.invariant.0
    c.loop-b-test.false c.loop-b.invariant.1 c.push.ensures.put.0
