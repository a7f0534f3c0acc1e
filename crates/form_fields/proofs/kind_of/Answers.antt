-- `form_fields::kind_of` meets its contract: the head chooses.
use mathlib.Core.Path.{refl, sym, ◌∙◌}
use Rattle.form_fields.specs.Kind.{kind_of}
use Rattle.form_fields.proofs.kind_of.Goals as goal

pub returns-then-begins2 : goal.returns-then-begins2
unfolding kind_of
returns-then-begins2 c =
    rw (sym c.begins2.ensures ∙ c.if-begins2.true) refl

pub returns-else-begins2 : goal.returns-else-begins2
unfolding kind_of
returns-else-begins2 c =
    rw (sym c.begins2.ensures ∙ c.if-begins2.false) refl
