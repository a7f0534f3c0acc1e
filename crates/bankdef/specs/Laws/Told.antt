-- Laws that Theorems/Told rests on.
use Rattle.prelude.specs.Told.{told_verdict}
use Rattle.prelude.specs.Verdict.{Verdict}
use Rattle.bankdef.specs.declared.Bankdefs.{Bankdefs}
use Rattle.bankdef.specs.Refused as by
use Rattle.bankdef.specs.Refused.{Decided}
use Rattle.bankdef.specs.Told.{Checks, count, number, pair, sound}

pub told-by : {t : Bankdefs} {v : Verdict} → Decided t v → Checks t (told_verdict v)
told-by (by.count e) = count e
told-by (by.number e f) = number e f
told-by (by.pair e n f) = pair e n f
told-by (by.sound e n f) = sound e n f
