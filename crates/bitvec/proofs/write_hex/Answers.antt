-- `bitvec::write_hex` tests as the definition does, and writes the digits of the whole bytes and then the others.
use Prim.Native.Nat.{◌+◌, ◌/◌, ◌%◌}
use mathlib.Core.Path.{sym, ◌∙◌}
use native.Mathlib.Omega.{arith}
use Rattle.bitvec.proofs.HexLaws.{all-printed, past_bytes, hex-short}
use Rattle.bitvec.proofs.write_hex.Goals as goal

pub returns-then-not-ends_within : goal.returns-then-not-ends_within
returns-then-not-ends_within c =
    let a = c.args in
    past_bytes a.bytes.now a.bits a.hex.now (sym c.ends_within.ensures ∙ c.if-not-ends_within.true)

pub returns-then-hex-digits : goal.returns-then-hex-digits
returns-then-hex-digits c =
    let a = c.args in
    hex-short a.bytes.now a.bits a.hex.now (sym c.ends_within.ensures ∙ c.if-not-ends_within.false) (omega arith)

pub returns : goal.returns
returns c =
    let a = c.args in
    all-printed a.bytes.now a.bits a.hex.now (a.bits / 4 + (a.bits % 4 + 3) / 4) c.write_tail.new.hex
    (sym c.ends_within.ensures ∙ c.if-not-ends_within.false) (omega arith) (omega arith)
    (c.write_tail.ensures.digits a.hex.now (omega arith) c.write_pairs.ensures)
