-- `form_convert::to_form1` meets its contract: a broken file changes nothing, a sound one is converted.
use Rattle.std.specs.Prelude.{Err}
use mathlib.Core.Path.{refl, sym, ◌∙◌}
use Rattle.form_convert.specs.Theorems.Told.{tells-form1}
use Rattle.form_convert.proofs.to_form1.Goals as goal

pub returns-in-Ok-clause-tells_form1 : goal.returns-in-Ok-clause-tells_form1
returns-in-Ok-clause-tells_form1 c =
    (tells-form1 c.convert1.ensures).1

pub returns-in-Err-clause-tells_form1 : goal.returns-in-Err-clause-tells_form1
returns-in-Err-clause-tells_form1 c =
    (tells-form1 {answer = Err c.in-Err.why} (record { is = rw (sym c.read_form2.ensures.is ∙ c.in-Err.is) refl; out = refl })).1
