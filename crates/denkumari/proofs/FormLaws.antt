-- The build of a file is told as it is.
use Rattle.std.specs.Prelude.{Option}
use mathlib.Core.Path.{◌≡◌, ap, subst, ◌∙◌}
use mathlib.Core.List.{List}
use Prim.Native.Nat.{ℕ}
use Rattle.output.specs.Output.{Lent}
use Rattle.output.specs.declared.Output.{Output}
use Rattle.form_build.specs.Filed.{FileBuilt}
use Rattle.c_answers.specs.Told.{layout_told}
use Rattle.c_answers.specs.declared.DkLayout.{DkLayout}
use Rattle.c_model.specs.Forms.{FormTold}

pub form-told : {file : List ℕ} {fill : ℕ} {page : Option ℕ} {old new : Lent} {r : Output} {t : DkLayout} → t ≡ layout_told r
    → FileBuilt file fill page old r new → FormTold file fill page old t new
form-told {file} {fill} {page} {old} {new} told built =
    record {
      answer = told ∙ ap layout_told built.answer;
      built = subst (λ (o : Output). FileBuilt file fill page old o new) built.answer built;
    }
