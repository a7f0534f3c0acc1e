-- A bank that passes the table's check has addresses that can be told: after refusal 2, no distance and no address is refused 4.
use Rattle.std.specs.Prelude.{◌≡◌, true, false, nat_abs}
use Rattle.std.proofs.Common.{sym, le-leb}
use Rattle.prelude.specs.Limits.{max_start}
use Rattle.bankdef.specs.Numbers.{bank_fault}
use Rattle.bankdef.specs.Theorems.Numbers.{sound-bank}
use Rattle.bankdef.specs.declared.Bankdef.{Bankdef}
use Rattle.iter.specs.Distance.{tellable}
use Rattle.iter.specs.Laws.Signs.{size-nat_abs}
use Rattle.iter.specs.Laws.Told.{nonzero}

-- A bank that is not at fault can be told.
pub sound-told : (def : Bankdef) → bank_fault def ≡ false → tellable def ≡ true
sound-told def e =
    let sound = sound-bank def e in
    rw (nonzero def.unit sound.unit, sym (size-nat_abs def.start), le-leb (nat_abs def.start) max_start sound.start)
