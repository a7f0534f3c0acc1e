use mathlib.Core.Path.{◌≡◌, ◌∙◌, ap}
use Prim.Native.Nat.{ℕ, ◌+◌, ◌/◌, min}
use native.Mathlib.Omega.{arith}
use lib.ListN.{get_or}
use Rattle.overlay.specs.Laws.Order.{Row, row}
use Rattle.overlay.specs.Runs.{shorter}
use Rattle.overlay.specs.Trial.{Trial, trial}
use Rattle.overlay.proofs.WalkLaws.{walking-starts, walking_on, walking-ends, from-above}
use Rattle.overlay.proofs.walk.Goals as goal

pub loop-i-init : goal.loop-i-init
loop-i-init c =
    let lent : Trial =
    trial c.args.overlay.now c.args.released.now c.args.offsets.now c.args.sizes.now in
    let in_row : Row 0 c.args.offsets.now c.args.sizes.now =
    row 0 c.args.offsets.now c.args.sizes.now c.requires in
    (omega arith, walking-starts lent in_row c.args.firsts.now c.args.counts.now)

pub chain_end-last-requires : goal.chain_end-last-requires
chain_end-last-requires c =
    let in_row : Row 0 c.args.offsets.now c.args.sizes.now =
    row 0 c.args.offsets.now c.args.sizes.now c.requires in
    (in_row.paired, c.loop-i-test.true)

pub bounds-sizes-last : goal.bounds-sizes-last
bounds-sizes-last c =
    let in_row : Row 0 c.args.offsets.now c.args.sizes.now =
    row 0 c.args.offsets.now c.args.sizes.now c.requires in
    omega (arith, c.chain_end-last.ensures.one, in_row.paired)

pub list_stretch-count-requires : goal.list_stretch-count-requires
unfolding shorter
list_stretch-count-requires c =
    let lent : Trial =
    trial c.args.overlay.now c.args.released.now c.args.offsets.now c.args.sizes.now in
    let in_row : Row 0 c.args.offsets.now c.args.sizes.now =
    row 0 c.args.offsets.now c.args.sizes.now c.requires in
    let from_is : c.at_most-from.result ≡ min ((get_or c.args.offsets.now c.loop-i.i 0 + 0 + 7) / 8) (shorter lent) =
    c.at_most-from.ensures
    ∙ ap (λ (m : ℕ). min m c.at_most-len.result) c.begun_bytes.ensures
    ∙ ap (min ((get_or c.args.offsets.now c.loop-i.i 0 + 0 + 7) / 8)) c.at_most-len.ensures in
    let to_is : let last = c.chain_end-last.result in
    c.at_most-to.result ≡ min ((get_or c.args.offsets.now last 0 + get_or c.args.sizes.now last 0) / 8) (shorter lent) =
    let last = c.chain_end-last.result in
    c.at_most-to.ensures
    ∙ ap (λ (m : ℕ). min m c.at_most-len.result) c.whole_bytes.ensures
    ∙ ap (min ((get_or c.args.offsets.now last 0 + get_or c.args.sizes.now last 0) / 8)) c.at_most-len.ensures in
    let w = c.loop-i.invariant.1 in
    let above = from-above lent in_row c.loop-i.i c.chain_end-last.result c.at_most-from.result c.at_most-to.result
    c.chain_end-last.ensures from_is to_is w.place w.walked c.loop-i-test.true in
    let few = w.few in
    omega arith

pub loop-i-preserved : goal.loop-i-preserved
unfolding shorter
loop-i-preserved c =
    let lent : Trial =
    trial c.args.overlay.now c.args.released.now c.args.offsets.now c.args.sizes.now in
    let in_row : Row 0 c.args.offsets.now c.args.sizes.now =
    row 0 c.args.offsets.now c.args.sizes.now c.requires in
    let from_is : c.at_most-from.result ≡ min ((get_or c.args.offsets.now c.loop-i.i 0 + 0 + 7) / 8) (shorter lent) =
    c.at_most-from.ensures
    ∙ ap (λ (m : ℕ). min m c.at_most-len.result) c.begun_bytes.ensures
    ∙ ap (min ((get_or c.args.offsets.now c.loop-i.i 0 + 0 + 7) / 8)) c.at_most-len.ensures in
    let to_is : let last = c.chain_end-last.result in
    c.at_most-to.result ≡ min ((get_or c.args.offsets.now last 0 + get_or c.args.sizes.now last 0) / 8) (shorter lent) =
    let last = c.chain_end-last.result in
    c.at_most-to.ensures
    ∙ ap (λ (m : ℕ). min m c.at_most-len.result) c.whole_bytes.ensures
    ∙ ap (min ((get_or c.args.offsets.now last 0 + get_or c.args.sizes.now last 0) / 8)) c.at_most-len.ensures in (
      omega (arith, c.chain_end-last.ensures.one),
      walking_on lent in_row c.args.firsts.now c.args.counts.now c.loop-i.i c.chain_end-last.result
          c.at_most-from.result c.at_most-to.result c.loop-i.count c.list_stretch-count.result
          c.loop-i.firsts c.loop-i.counts c.list_stretch-count.new.firsts c.list_stretch-count.new.counts
          c.loop-i-test.true c.chain_end-last.ensures from_is to_is c.loop-i.invariant.1 c.list_stretch-count.ensures,
    )

pub returns : goal.returns
returns c =
    let lent : Trial =
    trial c.args.overlay.now c.args.released.now c.args.offsets.now c.args.sizes.now in
    let in_row : Row 0 c.args.offsets.now c.args.sizes.now =
    row 0 c.args.offsets.now c.args.sizes.now c.requires in
    walking-ends lent in_row c.args.firsts.now c.args.counts.now c.loop-i.i c.loop-i.count c.loop-i.firsts c.loop-i.counts
    c.loop-i-test.false c.loop-i.invariant.1
