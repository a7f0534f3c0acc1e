-- The parts of a file stand within it, one behind the other.
use Rattle.std.specs.Prelude.{true, List, ◌≡◌, ℕ, ◌+◌, ◌*◌, ◌≤◌, length}
use native.Mathlib.Omega.{arith}
use Rattle.form_fields.specs.declared.Kind.{Kind}
use Rattle.form_fields.specs.Theorems.Fields.{run_ends}
use Rattle.form_fields.specs.Kind.{Known, headed}
use Rattle.form_fields.specs.Laws.Kind.{head-within}
use Rattle.form_fields.specs.Shape.{bank_count_in, nodes_start_in, node_count_in, rows_start_in, row_count_in, values_start_in, fields_before_in}

module _ {k : Kind} (known : Known k) (file : List ℕ) (head : headed k file ≡ true) where
  pub nodes-within : nodes_start_in k file ≤ length file
  unfolding nodes_start_in bank_count_in
  nodes-within = run_ends file k.tag k.bank (k.heads * 4) (head-within known file head)

  pub rows-within : rows_start_in k file ≤ length file
  unfolding rows_start_in node_count_in
  rows-within = omega (arith, nodes-within, run_ends file 2 5 (nodes_start_in k file) nodes-within)

  pub values-within : values_start_in k file ≤ length file
  unfolding values_start_in row_count_in
  values-within = omega (arith, rows-within, run_ends file 3 (5 * node_count_in k file) (rows_start_in k file) rows-within)

  -- every field takes three bytes at least
  pub banks-within : k.heads * 4 + bank_count_in k file * 3 ≤ nodes_start_in k file
  unfolding nodes_start_in
  banks-within = omega arith

  pub fields_within : fields_before_in k file ≤ length file
  unfolding fields_before_in values_start_in rows_start_in
  fields_within = omega (arith, values-within, banks-within)
