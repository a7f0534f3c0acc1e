-- A build of the table is told as it is.
use mathlib.Core.Path.{◌≡◌, ap, subst, ◌∙◌}
use Rattle.bankdef.specs.declared.Bankdefs.{Bankdefs}
use Rattle.nodes.specs.Lists.{Lists}
use Rattle.resolver.specs.declared.Choices.{Choices}
use Rattle.output.specs.Output.{input, Lent, Builds}
use Rattle.output.specs.declared.Output.{Output}
use Rattle.c_answers.specs.Told.{layout_told}
use Rattle.c_answers.specs.declared.DkLayout.{DkLayout}
use Rattle.c_model.specs.Tables.{TablesTold}

pub tables-told : {banks table : Bankdefs} {l : Lists} {chosen choices : Choices} {old new : Lent} {r : Output} {t : DkLayout} → banks ≡ table
    → chosen ≡ choices → t ≡ layout_told r → Builds (input banks l chosen) old r new → TablesTold (input table l choices) old t new
tables-told {table = table} {l} {choices = choices} {old} {new} {r} {t} same chose told built =
    let b : Builds (input table l choices) old r new = rw (same, chose) at built in
    record {
      answer = told ∙ ap layout_told b.answer;
      built = subst (λ (o : Output). Builds (input table l choices) old o new) b.answer b;
    }
