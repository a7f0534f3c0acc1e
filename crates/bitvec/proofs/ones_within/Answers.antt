-- `bitvec::ones_within` makes two ranges, the first up to a byte edge, or one that lies in a byte.
use Prim.Native.Nat.{◌+◌, ◌*◌}
use native.Mathlib.Omega.{arith}
use Rattle.bitvec.proofs.OnesLaws.{same-range, two-ranges}
use Rattle.bitvec.proofs.ones_within.Goals as goal

pub returns-else-size-head : goal.returns-else-size-head
returns-else-size-head c =
    let a = c.args in
    let head = c.put_ones-else-size-head in
    let rest = c.ones_from_edge in
    let j = c.of-first.result.byte in
    two-ranges a.image.now head.new.image rest.new.image a.from (8 * j + 8) (8 * (j + 1)) a.end
    (same-range a.image.now _ _ _ a.from (8 * j + 8) head.ensures (omega arith) (omega arith)) rest.ensures
    (omega arith) (omega arith) (omega arith)
