-- `bitvec::write_from_edge` writes two runs: the whole bytes, then the bits that are left.
use Prim.Native.Nat.{◌+◌, ◌*◌, ◌/◌, ◌%◌}
use native.Mathlib.Omega.{arith}
use Rattle.bitvec.proofs.Pieces.{two_runs}
use Rattle.bitvec.proofs.write_from_edge.Goals as goal

pub returns : goal.returns
returns c =
    let a = c.args in
    two_runs a.image.now c.write_bytes.new.image c.put_bits.new.image
    (8 * a.j) a.values.now (8 * a.from.byte + a.from.bit) (8 * (a.size / 8)) (a.size % 8) a.size (8 * (a.j + a.size / 8) + 0)
    (8 * c.skip.result.byte + c.skip.result.bit) c.write_bytes.ensures
    c.put_bits.ensures (omega arith) (omega arith) (omega arith)
