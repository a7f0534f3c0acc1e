-- `bitvec::put_ones` stores one spliced byte, whose chunk is all ones.
use Prim.Native.Nat.{◌+◌, ◌-◌, ◌*◌}
use mathlib.Core.Path.{sym}
use Rattle.std.proofs.Common.{arith, rules}
use Rattle.bitvec.specs.Theorems.Ones.{ones_none}
use Rattle.bitvec.proofs.OnesLaws.{spliced-ones}
use Rattle.bitvec.proofs.put_ones.Goals as goal

pub returns-then-n-eq0 : goal.returns-then-n-eq0
returns-then-n-eq0 c =
    let a = c.args in
    ones_none a.image.now (8 * a.to.byte + a.to.bit) (8 * a.to.byte + a.to.bit + a.n) (search rules) (omega (arith, c.if-n-eq0.true))

pub returns : goal.returns
returns c =
    let a = c.args in
    let p = c.power-ones in
    spliced-ones a.image.now a.to.byte a.to.bit a.n (p.result - 1) c.splice.result
    (search rules) (omega arith) (omega arith) (omega (arith, p.ensures.0, p.ensures.1))
    (rw (sym c.from-old.ensures) c.splice.ensures.0) c.splice.ensures.1
