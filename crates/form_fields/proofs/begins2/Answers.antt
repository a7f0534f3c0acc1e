-- `form_fields::begins2` meets its contract: a field of tag 16 and one byte, and that byte.
use mathlib.Core.Bool.{true, false}
use mathlib.Core.Path.{◌≡◌, refl, sym, ◌∙◌}
use borrow.Author.Tests.{not-true, not-false}
use native.Mathlib.Omega.{arith}
use Rattle.form_fields.specs.Fields.{field_at}
use Rattle.form_fields.specs.Laws.Fields.{field-ends}
use Rattle.form_fields.specs.Kind.{begins2}
use Rattle.form_fields.proofs.begins2.Goals as goal

pub returns-then-not-is_field : goal.returns-then-not-is_field
unfolding begins2
returns-then-not-is_field c =
    let none : field_at c.args.file.now 16 1 0 ≡ false = sym c.is_field.ensures ∙ not-true _ c.if-not-is_field.true-raw in
    rw none refl

pub bounds-file-3 : goal.bounds-file-3
bounds-file-3 c =
    let there : field_at c.args.file.now 16 1 0 ≡ true =
    sym c.is_field.ensures ∙ not-false _ c.if-not-is_field.false-raw in
    omega (arith, field-ends c.args.file.now 16 1 0 (there))

pub returns : goal.returns
unfolding begins2
returns c =
    let there : field_at c.args.file.now 16 1 0 ≡ true =
    sym c.is_field.ensures ∙ not-false _ c.if-not-is_field.false-raw in
    rw (there) refl
