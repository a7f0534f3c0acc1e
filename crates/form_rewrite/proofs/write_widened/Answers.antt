-- `form_rewrite::write_widened` meets its contract: the head, the two banks, the switch, and the layout behind it.
use Prim.Native.Nat.{ℕ}
use mathlib.Core.List.{List}
use mathlib.Core.Path.{subst}
use native.Mathlib.Omega.{arith}
use Rattle.print_text.specs.Puts.{Writes}
use Rattle.print_text.specs.Laws.Sets.{writes_then}
use Rattle.form_rewrite.proofs.Assembled.{widened_pieces, widening, widened_is}
use Rattle.form_rewrite.proofs.write_widened.Goals as goal

pub write_head-head-requires : goal.write_head-head-requires
write_head-head-requires c =
    omega (arith, widening _ _ c.requires.read c.requires.banks_value _ c.requires.file_in_bounds)

pub slice_bounds-write_field-end : goal.slice_bounds-write_field-end
slice_bounds-write_field-end c =
    omega (arith, widening _ _ c.requires.read c.requires.banks_value _ c.requires.file_in_bounds)

pub write_field-zero-requires-clause-behind_in_bounds : goal.write_field-zero-requires-clause-behind_in_bounds
write_field-zero-requires-clause-behind_in_bounds c =
    omega (arith, widening _ _ c.requires.read c.requires.banks_value _ c.requires.file_in_bounds)

pub slice_bounds-write_field-end-2 : goal.slice_bounds-write_field-end-2
slice_bounds-write_field-end-2 c =
    omega (arith, widening _ _ c.requires.read c.requires.banks_value _ c.requires.file_in_bounds)

pub write_field-one-requires-clause-behind_in_bounds : goal.write_field-one-requires-clause-behind_in_bounds
write_field-one-requires-clause-behind_in_bounds c =
    omega (arith, widening _ _ c.requires.read c.requires.banks_value _ c.requires.file_in_bounds)

pub write_switch-end-requires : goal.write_switch-end-requires
write_switch-end-requires c =
    omega (arith, widening _ _ c.requires.read c.requires.banks_value _ c.requires.file_in_bounds)

pub overflow_mul-nodes : goal.overflow_mul-nodes
overflow_mul-nodes c =
    omega (arith, widening _ _ c.requires.read c.requires.banks_value _ c.requires.file_in_bounds)

pub overflow_add-nodes : goal.overflow_add-nodes
overflow_add-nodes c =
    omega (arith, widening _ _ c.requires.read c.requires.banks_value _ c.requires.file_in_bounds)

pub overflow_mul-nodes-2 : goal.overflow_mul-nodes-2
overflow_mul-nodes-2 c =
    omega (arith, widening _ _ c.requires.read c.requires.banks_value _ c.requires.file_in_bounds)

pub write_layout-requires-clause-count_in_bounds : goal.write_layout-requires-clause-count_in_bounds
write_layout-requires-clause-count_in_bounds c =
    omega (arith, widening _ _ c.requires.read c.requires.banks_value _ c.requires.file_in_bounds)

pub write_layout-requires-clause-nodes_bound : goal.write_layout-requires-clause-nodes_bound
write_layout-requires-clause-nodes_bound c =
    omega (arith, widening _ _ c.requires.read c.requires.banks_value _ c.requires.file_in_bounds)

pub write_layout-requires-clause-keep_in_bounds : goal.write_layout-requires-clause-keep_in_bounds
write_layout-requires-clause-keep_in_bounds c =
    omega (arith, widening _ _ c.requires.read c.requires.banks_value _ c.requires.file_in_bounds)

pub write_layout-requires-clause-keep_bound : goal.write_layout-requires-clause-keep_bound
write_layout-requires-clause-keep_bound c =
    omega (arith, widening _ _ c.requires.read c.requires.banks_value _ c.requires.file_in_bounds)

pub write_layout-requires-clause-values_in_bounds : goal.write_layout-requires-clause-values_in_bounds
write_layout-requires-clause-values_in_bounds c =
    (omega (arith, widening _ _ c.requires.read c.requires.banks_value _ c.requires.file_in_bounds), omega (arith, widening _ _ c.requires.read c.requires.banks_value _ c.requires.file_in_bounds))

pub write_layout-requires-clause-all_in_bounds : goal.write_layout-requires-clause-all_in_bounds
write_layout-requires-clause-all_in_bounds c =
    omega (arith, widening _ _ c.requires.read c.requires.banks_value _ c.requires.file_in_bounds)

pub returns : goal.returns
returns c =
    let all : Writes (widened_pieces c.args.file.now c.args.shape) c.args.out.now 0 c.write_layout.result c.write_layout.new.out =
    writes_then c.write_head-head.ensures.writes
    (writes_then c.write_field-zero.ensures.writes
    (writes_then c.write_field-one.ensures.writes (writes_then c.write_switch-end.ensures.writes c.write_layout.ensures))) in
    subst (λ (l : List ℕ). Writes l c.args.out.now 0 c.write_layout.result c.write_layout.new.out)
    (widened_is c.args.file.now c.args.shape c.requires.read c.requires.banks_value) all
