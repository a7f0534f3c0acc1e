-- `form_lists::read_lists` meets its contract: a broken file changes nothing, a sound one is read.
use mathlib.Core.Path.{refl, sym, ◌∙◌}
use Rattle.form_fields.specs.Theorems.Told.{lists-are}
use Rattle.form_lists.proofs.read_lists.Goals as goal

pub returns-in-Ok : goal.returns-in-Ok
returns-in-Ok c =
    lists-are c.fill_lists.ensures

pub returns-in-Err : goal.returns-in-Err
returns-in-Err c =
    lists-are
    (record {
      verdict = rw (sym c.read_shape.ensures.is ∙ c.in-Err.is) refl;
      of-kinds = refl;
      of-operands = refl;
      of-numbers = refl;
      of-states = refl;
    })
