-- `form_lists::fill_lists` meets its contract: each test refuses, and what is written is what the definitions name.
use native.Mathlib.Omega.{arith}
use Rattle.form_fields.specs.Theorems.Filled.{places, lists-read}
use Rattle.form_lists.proofs.fill_lists.Goals as goal

pub overflow_mul-cells : goal.overflow_mul-cells
overflow_mul-cells c =
    omega (
      arith,
      places c.args.file.now c.args.shape c.requires,
    )

pub overflow_add-start : goal.overflow_add-start
overflow_add-start c =
    omega (
      arith,
      c.nodes_start-start.ensures,
      places c.args.file.now c.args.shape c.requires,
    )

pub overflow_add-start-2 : goal.overflow_add-start-2
overflow_add-start-2 c =
    omega (
      arith,
      c.nodes_start-start.ensures,
      places c.args.file.now c.args.shape c.requires,
    )

pub read_columns-requires-clause-step_in_bounds : goal.read_columns-requires-clause-step_in_bounds
read_columns-requires-clause-step_in_bounds c =
    let p = places c.args.file.now c.args.shape c.requires in
    let s = c.nodes_start-start.ensures in omega (arith, p, s)

pub read_columns-requires-clause-step_in_bounds_2 : goal.read_columns-requires-clause-step_in_bounds_2
read_columns-requires-clause-step_in_bounds_2 c =
    let p = places c.args.file.now c.args.shape c.requires in
    let s = c.nodes_start-start.ensures in omega (arith, p, s)

pub overflow_add-start-3 : goal.overflow_add-start-3
overflow_add-start-3 c =
    omega (
      arith,
      c.nodes_start-start.ensures,
      places c.args.file.now c.args.shape c.requires,
    )

pub read_rows-requires-clause-nodes_in_bounds : goal.read_rows-requires-clause-nodes_in_bounds
read_rows-requires-clause-nodes_in_bounds c =
    let p = places c.args.file.now c.args.shape c.requires in omega (arith, p, c.nodes_start-start.ensures)

pub returns : goal.returns
returns c =
    let a = c.args in
    lists-read a.file.now a.kinds.now a.operands.now a.numbers.now a.states.now a.shape c.requires c.if-kinds-nodes.false
    c.if-operands-nodes.false
    c.if-numbers-cells.false c.if-states-cells.false c.nodes_start-start.result c.nodes_start-start.ensures _ _ _ _
    c.read_columns.ensures.bytes_after c.read_columns.ensures.words_after c.read_rows.ensures.numbers_after
    c.read_rows.ensures.states_after
