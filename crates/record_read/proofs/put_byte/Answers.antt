-- `record_read::put_byte`: a byte that has no place changes nothing.
use mathlib.Core.Logic.{inl, inr}
use Rattle.record_read.proofs.Fills.{byte-out, byte-set}
use Rattle.record_read.proofs.put_byte.Goals.{else-base-address-via-then-base-address+else-address-base, else-base-address-via-else-base-address}
use Rattle.record_read.proofs.put_byte.Goals as goal

pub returns-then-address-base : goal.returns-then-address-base
returns-then-address-base c =
    let a = c.args in
    byte-set a.load a.address a.value a.bytes.now c.if-base-address.true c.if-address-base.true

pub returns-else-base-address : goal.returns-else-base-address
returns-else-base-address c =
    let a = c.args in
    elim c.else-base-address.branch [
      | else-base-address-via-then-base-address+else-address-base w ↦ byte-out a.load a.address a.value a.bytes.now (inr w.if-address-base.false)
      | else-base-address-via-else-base-address w ↦ byte-out a.load a.address a.value a.bytes.now (inl w.if-base-address.false)
    ]
