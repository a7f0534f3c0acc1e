-- `form_convert::stray1` meets its contract: nodes are looked at where there is one bank.
use mathlib.Core.Path.{◌∙◌}
use native.Mathlib.Omega.{arith}
use Rattle.form_fields.specs.Kind.{is1}
use Rattle.form_rewrite.specs.Laws.Sizes.{nodes-at, rows_at, values-start, values-inside}
use Rattle.form_convert.proofs.There.{stray-one, stray-other}
use Rattle.form_convert.proofs.stray1.Goals as goal

pub returns-then-shape-ne1 : goal.returns-then-shape-ne1
returns-then-shape-ne1 c =
    stray-other c.args.file.now c.args.shape c.requires c.if-shape-ne1.true

pub first_stray-requires : goal.first_stray-requires
first_stray-requires c =
    let file = c.args.file.now in
    let s = c.args.shape in
    let r = c.requires in
    omega (arith, nodes-at is1 file s r, rows_at is1 file s r, values-start is1 file s r, values-inside is1 file s r)

pub returns : goal.returns
returns c =
    c.first_stray.ensures ∙ stray-one c.args.file.now c.args.shape c.requires c.if-shape-ne1.false
