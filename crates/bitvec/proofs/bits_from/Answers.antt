-- `bitvec::bits_from` reads the bits from one byte, or from a number made of two: a shift drops the bits below, a remainder those above.
use native.Mathlib.Omega.{arith}
use Rattle.bitvec.proofs.Pieces.{byte-field, pair-field}
use Rattle.bitvec.proofs.bits_from.Goals as goal

pub returns-then-end-le8 : goal.returns-then-end-le8
returns-then-end-le8 c =
    let a = c.args in
    rw (c.from-first.ensures, c.power-scale.ensures.0)
    (byte-field a.values.now (λ i. (c.type_inv.values i).fits) a.from.byte a.from.bit a.n (omega arith))

pub returns : goal.returns
returns c =
    let a = c.args in
    rw (c.from-next.ensures, c.from-first.ensures, c.power-scale.ensures.0)
    (pair-field a.values.now (λ i. (c.type_inv.values i).fits) a.from.byte a.from.bit a.n (omega arith))
