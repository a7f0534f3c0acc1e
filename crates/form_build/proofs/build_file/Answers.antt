-- `build_file` meets its contract: a broken file changes nothing, and a sound one's lists fit the arrays.
use mathlib.Core.Path.{sym, ◌∙◌}
use Rattle.form_build.specs.Laws.Held.{held}
use native.Mathlib.Omega.{arith}
use Rattle.form_build.proofs.build_file.Goals as goal

pub build_read-requires : goal.build_read-requires
build_read-requires c =
    let a = c.args in
    held a.file.now c.in-Ok.shape (sym c.read_shape.ensures.is ∙ c.in-Ok.is) _ _ _ _
    (omega arith) (omega arith) (omega arith) (omega arith) c.read_lists.ensures.lists
