-- `form_convert::length2` meets its contract: what one bank more, one node more and its cells take, or a byte for each bank.
use native.Mathlib.Omega.{arith}
use Rattle.form_fields.specs.Kind.{is1}
use Rattle.form_rewrite.specs.Laws.Sizes.{file-short, rows_few, banks-few}
use Rattle.form_convert.proofs.There.{length-one, length-other}
use Rattle.form_convert.proofs.length2.Goals as goal

pub overflow_mul-result : goal.overflow_mul-result
overflow_mul-result c =
    let a = c.args in
    let r = c.requires in
    omega (arith, file-short is1 a.file.now a.shape r, rows_few is1 a.file.now a.shape r)

pub overflow_add-result-then-shape-eq1 : goal.overflow_add-result-then-shape-eq1
overflow_add-result-then-shape-eq1 c =
    let a = c.args in
    omega (
      arith,
      file-short is1 a.file.now a.shape c.requires,
      rows_few is1 a.file.now a.shape c.requires,
    )

pub returns-then-shape-eq1 : goal.returns-then-shape-eq1
returns-then-shape-eq1 c =
    length-one c.args.file.now c.args.shape c.requires c.if-shape-eq1.true

pub overflow_add-result-3 : goal.overflow_add-result-3
overflow_add-result-3 c =
    let a = c.args in
    omega (
      arith,
      file-short is1 a.file.now a.shape c.requires,
      banks-few is1 a.file.now a.shape c.requires,
    )

pub returns : goal.returns
returns c =
    length-other c.args.file.now c.args.shape c.requires c.if-shape-eq1.false
