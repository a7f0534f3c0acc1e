-- `form_fields::read_shape` meets its contract: a file is read as its own form.
use mathlib.Core.Path.{sym, ap, subst, ◌∙◌}
use Rattle.form_fields.specs.declared.Kind.{Kind}
use Rattle.form_fields.specs.Kind.{Known, kind_of}
use Rattle.form_fields.specs.Theorems.Kind.{kind-known}
use Rattle.form_fields.specs.Shape.{form_in}
use Rattle.form_fields.specs.Theorems.Told.{form-is}
use Rattle.form_fields.proofs.read_shape.Goals as goal

pub read_as-requires : goal.read_as-requires
read_as-requires c =
    subst Known (sym c.kind_of.ensures) (kind-known c.args.file.now)

pub returns : goal.returns
returns c =
    let file = c.args.file.now in
    form-is (kind_of file) file (c.read_as.ensures ∙ ap (λ (k : Kind). form_in k file) c.kind_of.ensures)
