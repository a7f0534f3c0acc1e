-- `form_convert::stray2` meets its contract: nodes are looked at where there is one bank.
use mathlib.Core.Path.{◌∙◌}
use native.Mathlib.Omega.{arith}
use Rattle.form_fields.specs.Kind.{is2}
use Rattle.form_rewrite.specs.Laws.Sizes.{sizes}
use Rattle.form_convert.proofs.Back.{back-stray-one, back-stray-other}
use Rattle.form_convert.proofs.stray2.Goals as goal

pub returns-then-shape-ne1 : goal.returns-then-shape-ne1
returns-then-shape-ne1 c =
    back-stray-other c.args.file.now c.args.shape c.requires c.if-shape-ne1.true

pub first_stray-requires : goal.first_stray-requires
first_stray-requires c =
    omega (
      arith,
      c.if-shape-ne1.false,
      sizes is2 c.args.file.now c.args.shape c.requires,
    )

pub returns : goal.returns
returns c =
    c.first_stray.ensures ∙ back-stray-one c.args.file.now c.args.shape c.requires c.if-shape-ne1.false
