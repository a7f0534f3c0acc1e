-- `bitvec::ones_from_edge` makes two ranges: the whole bytes, then the bits that are left.
use Prim.Native.Nat.{◌+◌, ◌*◌, ◌/◌}
use mathlib.Core.Path.{◌∙◌, ap}
use native.Mathlib.Omega.{arith}
use Rattle.bitvec.specs.Ones.{with_ones}
use Rattle.bitvec.proofs.OnesLaws.{two-ranges}
use Rattle.bitvec.proofs.ones_from_edge.Goals as goal

pub returns : goal.returns
returns c =
    let a = c.args in
    let whole = c.fill_bytes in
    let rest = c.put_ones in
    let k = a.end / 8 in
    two-ranges a.image.now whole.new.image rest.new.image (8 * a.j) (8 * k) (8 * k + 0) a.end whole.ensures
    (rest.ensures ∙ ap (with_ones whole.new.image (8 * k + 0)) (omega arith)) (omega arith) (omega arith) (omega arith)
