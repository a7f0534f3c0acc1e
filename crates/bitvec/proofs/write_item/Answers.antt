-- `bitvec::write_item` writes two runs, the first up to a byte edge, or one that lies in a byte.
use Prim.Native.Nat.{◌+◌, ◌-◌, ◌*◌}
use native.Mathlib.Omega.{arith}
use Rattle.bitvec.proofs.Pieces.{two_runs}
use Rattle.bitvec.proofs.write_item.Goals as goal

pub returns-else-size-head : goal.returns-else-size-head
returns-else-size-head c =
    let a = c.args in
    two_runs a.image.now c.put_bits-else-size-head.new.image c.write_from_edge.new.image
    (8 * a.to.byte + a.to.bit) a.values.now
    (8 * a.from.byte + a.from.bit) (8 - a.to.bit) (a.size - (8 - a.to.bit)) a.size (8 * (a.to.byte + 1))
    (8 * c.past.result.byte + c.past.result.bit) c.put_bits-else-size-head.ensures
    c.write_from_edge.ensures (omega arith) (omega arith) (omega arith)
