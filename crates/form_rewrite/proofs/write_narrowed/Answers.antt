-- `form_rewrite::write_narrowed` meets its contract: the bank, the nodes behind the first, the rows without their first cells, and the file from
-- its values on.
use Prim.Native.Nat.{ℕ}
use mathlib.Core.List.{List}
use mathlib.Core.Path.{subst}
use native.Mathlib.Omega.{arith}
use lib.ListN.{length}
use Rattle.print_text.specs.Puts.{Writes}
use Rattle.print_text.specs.Laws.Sets.{writes_then}
use Rattle.form_rewrite.proofs.Back.{narrowed_pieces, narrowing, narrowed-is}
use Rattle.form_rewrite.proofs.write_narrowed.Goals as goal

pub slice_bounds-write_field-end : goal.slice_bounds-write_field-end
slice_bounds-write_field-end c =
    omega (arith, narrowing _ _ c.requires.read c.requires.file_value _ c.requires.file_in_bounds)

pub write_field-end-requires-clause-behind_in_bounds : goal.write_field-end-requires-clause-behind_in_bounds
write_field-end-requires-clause-behind_in_bounds c =
    omega (arith, narrowing _ _ c.requires.read c.requires.file_value _ c.requires.file_in_bounds)

pub overflow_sub-nodes : goal.overflow_sub-nodes
overflow_sub-nodes c =
    omega (arith, narrowing _ _ c.requires.read c.requires.file_value _ c.requires.file_in_bounds)

pub overflow_mul-nodes : goal.overflow_mul-nodes
overflow_mul-nodes c =
    omega (arith, narrowing _ _ c.requires.read c.requires.file_value _ c.requires.file_in_bounds)

pub overflow_add-nodes : goal.overflow_add-nodes
overflow_add-nodes c =
    omega (arith, narrowing _ _ c.requires.read c.requires.file_value _ c.requires.file_in_bounds)

pub overflow_mul-nodes-2 : goal.overflow_mul-nodes-2
overflow_mul-nodes-2 c =
    omega (arith, narrowing _ _ c.requires.read c.requires.file_value _ c.requires.file_in_bounds)

pub overflow_sub-nodes-2 : goal.overflow_sub-nodes-2
overflow_sub-nodes-2 c =
    omega (arith, narrowing _ _ c.requires.read c.requires.file_value _ c.requires.file_in_bounds)

pub write_layout-requires-clause-count_in_bounds : goal.write_layout-requires-clause-count_in_bounds
write_layout-requires-clause-count_in_bounds c =
    omega (arith, narrowing _ _ c.requires.read c.requires.file_value _ c.requires.file_in_bounds)

pub write_layout-requires-clause-nodes_bound : goal.write_layout-requires-clause-nodes_bound
write_layout-requires-clause-nodes_bound c =
    omega (arith, narrowing _ _ c.requires.read c.requires.file_value _ c.requires.file_in_bounds)

pub write_layout-requires-clause-keep_in_bounds : goal.write_layout-requires-clause-keep_in_bounds
write_layout-requires-clause-keep_in_bounds c =
    omega (arith, narrowing _ _ c.requires.read c.requires.file_value _ c.requires.file_in_bounds)

pub write_layout-requires-clause-keep_bound : goal.write_layout-requires-clause-keep_bound
write_layout-requires-clause-keep_bound c =
    omega (arith, narrowing _ _ c.requires.read c.requires.file_value _ c.requires.file_in_bounds)

pub write_layout-requires-clause-values_in_bounds : goal.write_layout-requires-clause-values_in_bounds
write_layout-requires-clause-values_in_bounds c =
    (omega (arith, narrowing _ _ c.requires.read c.requires.file_value _ c.requires.file_in_bounds), omega (arith, narrowing _ _ c.requires.read c.requires.file_value _ c.requires.file_in_bounds))

pub write_layout-requires-clause-all_in_bounds : goal.write_layout-requires-clause-all_in_bounds
write_layout-requires-clause-all_in_bounds c =
    omega (arith, narrowing _ _ c.requires.read c.requires.file_value _ c.requires.file_in_bounds)

pub returns : goal.returns
returns c =
    let a = c.args in
    let all : Writes (narrowed_pieces a.file.now a.shape) a.out.now 0 c.write_layout.result c.write_layout.new.out =
    writes_then c.write_field-end.ensures.writes c.write_layout.ensures in
    let k = narrowing a.file.now a.shape c.requires.read c.requires.file_value (length a.out.now) c.requires.file_in_bounds in
    subst (λ (l : List ℕ). Writes l a.out.now 0 c.write_layout.result c.write_layout.new.out)
    (narrowed-is a.file.now a.shape c.requires.read k.two k.some) all
