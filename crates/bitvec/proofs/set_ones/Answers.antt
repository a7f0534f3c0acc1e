-- `bitvec::set_ones` makes the range's ones up to the image's end, which is all of them.
use Prim.Native.Nat.{◌*◌, min}
use mathlib.Core.Path.{refl, ◌∙◌}
use Rattle.std.proofs.Common.{arith, rules}
use lib.ListN.{length}
use Rattle.bitvec.specs.Theorems.Ones.{ones_none, ones_cut}
use Rattle.bitvec.proofs.OnesLaws.{same-range}
use Rattle.bitvec.proofs.set_ones.Goals as goal

pub returns-then-stop-from : goal.returns-then-stop-from
returns-then-stop-from c =
    let a = c.args in
    record {
      bytes = ones_none a.image.now a.from a.end (search rules)
          (omega (arith, c.last_bit-stop.ensures, c.if-stop-from.true));
    }

pub returns : goal.returns
returns c =
    let a = c.args in
    record {
      bytes = same-range a.image.now _ _ _ a.from (min a.end (8 * length a.image.now)) c.ones_within.ensures refl
          (omega (arith, c.last_bit-stop.ensures))
          ∙ ones_cut a.image.now a.from a.end;
    }
