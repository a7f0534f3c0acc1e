-- `bitvec::put_bits` stores one spliced byte, which is an item that lies in that byte.
use Prim.Native.Nat.{◌+◌, ◌*◌}
use mathlib.Core.Path.{sym}
use Rattle.std.proofs.Common.{arith, rules}
use Rattle.bitvec.specs.Laws.Numeral.{numeral-lt}
use Rattle.bitvec.specs.Laws.Bits.{bit_at_lt}
use Rattle.bitvec.proofs.Pieces.{written_none, stored-piece}
use Rattle.bitvec.proofs.put_bits.Goals as goal

pub returns-then-n-eq0 : goal.returns-then-n-eq0
returns-then-n-eq0 c =
    let a = c.args in
    sym
    (written_none a.image.now (8 * a.to.byte + a.to.bit) a.values.now (8 * a.from.byte + a.from.bit) a.n
    (search rules) c.if-n-eq0.true)

pub splice-requires : goal.splice-requires
splice-requires c =
    let a = c.args in (
      omega arith,
      omega arith,
      rw c.bits_from-chunk.ensures (numeral-lt a.n _ (λ i. bit_at_lt a.values.now (8 * a.from.byte + a.from.bit + i))),
    )

pub returns : goal.returns
returns c =
    let a = c.args in
    stored-piece a.image.now a.to.byte a.to.bit a.values.now (8 * a.from.byte + a.from.bit) a.n c.bits_from-chunk.result
    c.splice.result (search rules) (omega arith) (omega arith)
    c.bits_from-chunk.ensures (rw (sym c.from-old.ensures) c.splice.ensures.0)
