-- Theorems about what Told defines.
use Rattle.prelude.specs.Told.{told_verdict}
use Rattle.bankdef.specs.declared.Bankdefs.{Bankdefs}
use Rattle.bankdef.specs.Check.{check_of}
use Rattle.bankdef.specs.Theorems.Refused.{decided}
use Rattle.bankdef.specs.Laws.Told.{told-by}
use Rattle.bankdef.specs.Told.{Checks}

-- What is told of every table.
pub check-told : (t : Bankdefs) → Checks t (told_verdict (check_of t))
check-told t = told-by (decided t)
