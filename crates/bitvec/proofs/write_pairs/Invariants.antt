-- `bitvec::write_pairs`: the digits of the bytes before byte i are written.
use Rattle.std.proofs.Common.{◌≡◌, ◌++◌, ◌*◌, length, drop}
use Rattle.bitvec.specs.Lists.{list_of}
use Rattle.bitvec.specs.HexDigits.{digit_at}
use Rattle.bitvec.proofs.write_pairs.Given as goal

abbrev pub invariant-loop-i : goal.invariant-loop-i
invariant-loop-i l = (length l.hex ≡ length l.initial.hex) × (l.hex ≡ list_of (2 * l.i) (digit_at l.fn.bytes l.bits) ++ drop (2 * l.i) l.initial.hex)
