use Prim.Native.Nat.{◌/◌}
use mathlib.Core.Path.{refl}
use mathlib.Core.List.{[], append-nil}
use native.Mathlib.Omega.{arith}
use Rattle.print_text.specs.Decimal.{decimal}
use Rattle.print_text.proofs.Decimal.{decimal-some, length_more}
use Rattle.print_text.proofs.Digits.{turn, last}
use Rattle.print_text.proofs.write_number.Goals as goal

pub loop-left-init : goal.loop-left-init
loop-left-init c =
    let a = c.args in
    record {
      tail = [];
      digits = append-nil (decimal a.n);
      next = omega (arith, decimal-some a.n);
      inside = omega arith;
      buffer = refl;
      long = refl;
    }

pub overflow_sub-i : goal.overflow_sub-i
overflow_sub-i c = omega (arith, decimal-some c.args.n)

pub overflow_sub-i-in-loop-left : goal.overflow_sub-i-in-loop-left
overflow_sub-i-in-loop-left c =
    let left = c.loop-left.left in
    let next = c.loop-left.invariant.next in
    omega (arith, length_more left c.loop-left-test.true, decimal-some (left / 10))

pub loop-left-preserved : goal.loop-left-preserved
loop-left-preserved c = turn c.ascii.result c.loop-left-test.true c.ascii.ensures c.loop-left.invariant

pub returns : goal.returns
returns c = record { place = omega arith; buffer = last c.ascii-2.result (omega arith) c.ascii-2.ensures c.loop-left.invariant }
