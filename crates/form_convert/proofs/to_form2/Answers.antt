-- `form_convert::to_form2` meets its contract: a broken file changes nothing, a sound one is converted.
use Rattle.std.specs.Prelude.{Err}
use mathlib.Core.Path.{refl, sym, ◌∙◌}
use Rattle.form_convert.specs.Theorems.Told.{tells-form2}
use Rattle.form_convert.proofs.to_form2.Goals as goal

pub returns-in-Ok-clause-tells_form2 : goal.returns-in-Ok-clause-tells_form2
returns-in-Ok-clause-tells_form2 c =
    (tells-form2 c.convert2.ensures).1

pub returns-in-Err-clause-tells_form2 : goal.returns-in-Err-clause-tells_form2
returns-in-Err-clause-tells_form2 c =
    (tells-form2 {answer = Err c.in-Err.why} (record { is = rw (sym c.read_form1.ensures.is ∙ c.in-Err.is) refl; out = refl })).1
