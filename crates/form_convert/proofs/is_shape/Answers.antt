-- `form_convert::is_shape` meets its contract: the definition's five tests, one by one.
use Prim.Native.Nat.{◌≤◌}
use mathlib.Core.Path.{sym, ◌∙◌}
use native.Mathlib.Omega.{arith}
use borrow.Author.Tests.{not-true, not-false}
use Rattle.form_fields.specs.Kind.{is2}
use Rattle.form_fields.specs.Columns.{column}
use Rattle.form_fields.specs.Laws.Columns.{column-length}
use Rattle.form_fields.specs.Whole.{part}
use Rattle.form_rewrite.specs.Turning.{strays}
use Rattle.form_rewrite.specs.Laws.Sizes.{sizes}
use Rattle.form_convert.proofs.Back.{shape-banks, shape-bare, shape-none, shape-kind, shape-stray, shape-rows}
use Rattle.form_convert.proofs.Laws.{first-within}
use Rattle.form_convert.proofs.is_shape.Goals as goal

pub returns-then-shape-ne2 : goal.returns-then-shape-ne2
returns-then-shape-ne2 c =
    shape-banks c.args.file.now c.args.shape c.requires c.if-shape-ne2.true

pub is_bare-requires : goal.is_bare-requires
is_bare-requires c =
    omega (
      arith,
      c.if-shape-ne2.false,
      sizes is2 c.args.file.now c.args.shape c.requires,
    )

pub returns-then-not-is_bare : goal.returns-then-not-is_bare
returns-then-not-is_bare c =
    shape-bare c.args.file.now c.args.shape c.requires c.if-shape-ne2.false (sym c.is_bare.ensures ∙ not-true _ c.if-not-is_bare.true-raw)

pub returns-then-shape-eq0 : goal.returns-then-shape-eq0
returns-then-shape-eq0 c =
    shape-none c.args.file.now c.args.shape c.requires c.if-shape-ne2.false (sym c.is_bare.ensures ∙ not-false _ c.if-not-is_bare.false-raw)
    c.if-shape-eq0.true

pub bounds-file-61 : goal.bounds-file-61
bounds-file-61 c =
    omega (
      arith,
      c.if-shape-ne2.false,
      c.if-shape-eq0.false,
      sizes is2 c.args.file.now c.args.shape c.requires,
    )

pub returns-then-file-ne1 : goal.returns-then-file-ne1
returns-then-file-ne1 c =
    shape-kind c.args.file.now c.args.shape c.requires c.if-shape-ne2.false (sym c.is_bare.ensures ∙ not-false _ c.if-not-is_bare.false-raw)
    c.if-shape-eq0.false c.if-file-ne1.true

pub first_stray-requires : goal.first_stray-requires
first_stray-requires c =
    omega (
      arith,
      c.if-shape-ne2.false,
      sizes is2 c.args.file.now c.args.shape c.requires,
    )

pub returns-then-first_stray-shape : goal.returns-then-first_stray-shape
returns-then-first_stray-shape c =
    shape-stray c.args.file.now c.args.shape c.requires c.if-shape-ne2.false
    (sym c.is_bare.ensures ∙ not-false _ c.if-not-is_bare.false-raw) c.if-shape-eq0.false c.if-file-ne1.false c.first_stray.ensures (omega arith)

pub overflow_mul-nodes : goal.overflow_mul-nodes
overflow_mul-nodes c =
    omega (
      arith,
      sizes is2 c.args.file.now c.args.shape c.requires,
    )

pub overflow_add-nodes : goal.overflow_add-nodes
overflow_add-nodes c =
    omega (
      arith,
      sizes is2 c.args.file.now c.args.shape c.requires,
    )

pub overflow_mul-nodes-2 : goal.overflow_mul-nodes-2
overflow_mul-nodes-2 c =
    omega (
      arith,
      sizes is2 c.args.file.now c.args.shape c.requires,
    )

pub overflow_add-nodes-2 : goal.overflow_add-nodes-2
overflow_add-nodes-2 c =
    omega (
      arith,
      sizes is2 c.args.file.now c.args.shape c.requires,
    )

pub rows_start_zero-requires : goal.rows_start_zero-requires
rows_start_zero-requires c =
    omega (
      arith,
      c.if-shape-ne2.false,
      c.if-shape-eq0.false,
      sizes is2 c.args.file.now c.args.shape c.requires,
    )

pub returns : goal.returns
returns c =
    let file = c.args.file.now in
    let s = c.args.shape in
    let found = c.first_stray.ensures in
    let few : c.first_stray.result ≤ s.nodes =
    omega (arith, found, first-within (strays 1) (column (part file 5) 8 61 s.nodes), column-length (part file 5) 8 61 s.nodes) in
    shape-rows file s c.requires c.if-shape-ne2.false (sym c.is_bare.ensures ∙ not-false _ c.if-not-is_bare.false-raw) c.if-shape-eq0.false c.if-file-ne1.false
    found few (omega arith) c.rows_start_zero.ensures
