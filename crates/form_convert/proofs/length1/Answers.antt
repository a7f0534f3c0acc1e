-- `form_convert::length1` meets its contract: what a bank, a node and its cells took, or a byte for each bank.
use mathlib.Core.Path.{sym, ◌∙◌}
use native.Mathlib.Omega.{arith}
use Rattle.form_fields.specs.Kind.{is2}
use Rattle.form_rewrite.specs.Laws.Sizes.{file-short, rows_few}
use Rattle.form_convert.proofs.Back.{back-shaped, back-other}
use Rattle.form_convert.proofs.length1.Goals as goal

pub overflow_sub-result : goal.overflow_sub-result
overflow_sub-result c =
    let a = c.args in
    omega (arith, back-shaped a.file.now a.shape c.requires.read (sym c.requires.found_value ∙ c.if-found.true))

pub overflow_mul-result : goal.overflow_mul-result
overflow_mul-result c =
    let a = c.args in
    omega (arith, file-short is2 a.file.now a.shape c.requires.read, rows_few is2 a.file.now a.shape c.requires.read)

pub overflow_sub-result-then-found : goal.overflow_sub-result-then-found
overflow_sub-result-then-found c =
    let a = c.args in
    omega (arith, back-shaped a.file.now a.shape c.requires.read (sym c.requires.found_value ∙ c.if-found.true))

pub returns-then-found : goal.returns-then-found
returns-then-found c =
    let a = c.args in
    omega (arith, back-shaped a.file.now a.shape c.requires.read (sym c.requires.found_value ∙ c.if-found.true))

pub overflow_sub-result-2 : goal.overflow_sub-result-2
overflow_sub-result-2 c =
    let a = c.args in
    omega (arith, back-other a.file.now a.shape c.requires.read (sym c.requires.found_value ∙ c.if-found.false))

pub overflow_sub-result-3 : goal.overflow_sub-result-3
overflow_sub-result-3 c =
    let a = c.args in
    omega (arith, back-other a.file.now a.shape c.requires.read (sym c.requires.found_value ∙ c.if-found.false))

pub returns : goal.returns
returns c =
    let a = c.args in
    omega (arith, back-other a.file.now a.shape c.requires.read (sym c.requires.found_value ∙ c.if-found.false))
