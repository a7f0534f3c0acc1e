-- `put_range` meets its contract: an empty range, one below the load address, and every other.
use native.Mathlib.Omega.{arith}
use Rattle.overlay.specs.Trial.{Trial, trial}
use Rattle.print_bench.proofs.Laws.{stands-as, range-empty, range-below, range_at}
use Rattle.print_bench.proofs.put_range.Goals as goal

pub returns-then-count-eq0 : goal.returns-then-count-eq0
returns-then-count-eq0 c =
    let trial_of : Trial =
    trial c.args.overlay.now c.args.released.now c.args.offsets.now c.args.sizes.now in
    stands-as
    (range-empty c.args.load c.args.address c.args.count trial_of c.args.released_offsets.now c.args.released_sizes.now
    c.if-count-eq0.true)
    c.put_refusal.ensures.stands

pub returns-then-address-load : goal.returns-then-address-load
returns-then-address-load c =
    let trial_of : Trial =
    trial c.args.overlay.now c.args.released.now c.args.offsets.now c.args.sizes.now in
    stands-as
    (range-below c.args.load c.args.address c.args.count trial_of c.args.released_offsets.now c.args.released_sizes.now
    c.if-count-eq0.false c.if-address-load.true)
    c.put_named.ensures

pub returns : goal.returns
returns c =
    let trial_of : Trial =
    trial c.args.overlay.now c.args.released.now c.args.offsets.now c.args.sizes.now in
    stands-as
    (range_at c.args.load c.args.address c.args.count trial_of c.args.released_offsets.now c.args.released_sizes.now
    c.if-count-eq0.false (omega (arith, c.if-address-load.false)) c.first_free-free.ensures.value c.first_free-lack.ensures.value)
    c.put_source.ensures
