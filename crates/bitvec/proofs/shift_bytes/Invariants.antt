-- `bitvec::shift_bytes`: the bytes before byte i are the item's, each made of two value bytes.
use Rattle.std.proofs.Common.{◌+◌, ◌*◌}
use Rattle.bitvec.proofs.Pieces.{OfItem}
use Rattle.bitvec.proofs.shift_bytes.Given as goal

abbrev pub invariant-loop-i : goal.invariant-loop-i
invariant-loop-i l = OfItem l.values (8 * l.from.byte + l.from.bit) l.bytes l.i
