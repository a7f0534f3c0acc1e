use mathlib.Core.Path.{refl}
use native.Mathlib.Omega.{arith}
use lib.ListN.{length-set}
use Rattle.print_text.specs.Lines.{spaced}
use Rattle.print_text.specs.Laws.Sets.{writes_then, writes_byte, writes-long}
use Rattle.print_text.proofs.Spaced.{spaced-left, spaced-take}
use Rattle.print_text.proofs.write_numbers.Goals as goal

pub loop-n-init : goal.loop-n-init
unfolding spaced
loop-n-init c =
    (refl, record { place = omega arith; buffer = refl })

pub bounds-out-end : goal.bounds-out-end
bounds-out-end c =
    let more = spaced-left c.args.numbers.now c.loop-n.n-index c.loop-n-test.true in
    omega (arith, writes-long c.loop-n.invariant.1)

pub write_number-end-requires : goal.write_number-end-requires
write_number-end-requires c =
    let more = spaced-left c.args.numbers.now c.loop-n.n-index c.loop-n-test.true in
    simp length-set (omega (arith, writes-long c.loop-n.invariant.1))

pub loop-n-preserved : goal.loop-n-preserved
loop-n-preserved c =
    let ns = c.args.numbers.now in
    let i = c.loop-n.n-index in
    let more = spaced-left ns i c.loop-n-test.true in
    let number = c.write_number-end.ensures in (
      omega (arith, number.place),
      rw (spaced-take ns i c.loop-n-test.true) (writes_then c.loop-n.invariant.1 (writes_then (writes_byte 32) number)),
    )
