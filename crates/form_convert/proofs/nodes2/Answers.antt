-- `form_convert::nodes2` meets its contract: one more where there is one bank.
use native.Mathlib.Omega.{arith}
use Rattle.form_fields.specs.Kind.{is1}
use Rattle.form_convert.proofs.There.{nodes-one, nodes-other}
use Rattle.form_rewrite.specs.Laws.Sizes.{nodes-few}
use Rattle.form_convert.proofs.nodes2.Goals as goal

pub overflow_add-result : goal.overflow_add-result
overflow_add-result c =
    omega (
      arith,
      nodes-few is1 c.args.file.now c.args.shape c.requires,
    )

pub returns-then-shape-eq1 : goal.returns-then-shape-eq1
returns-then-shape-eq1 c =
    nodes-one c.args.file.now c.args.shape c.requires c.if-shape-eq1.true

pub returns : goal.returns
returns c =
    nodes-other c.args.file.now c.args.shape c.requires c.if-shape-eq1.false
