-- Theorems about what Faults defines.
use Rattle.std.specs.Prelude.{false, List, ◌≡◌, refl, ℕ, ◌+◌, ◌*◌, length}
use Rattle.std.proofs.Common.{ap, ◌∙◌, arith}
use Rattle.std.proofs.Math.Decide.{dec_le}
use Rattle.form_fields.specs.Words.{byte}
use Rattle.form_fields.specs.Fields.{field_at, run}
use Rattle.form_fields.specs.Kind.{form1}
use Rattle.form_fields.specs.Shape.{bank_count_in, nodes_start_in, node_count_in, rows_start_in, row_count_in, values_start_in, values_size_in, fields_before_in, form_in}
use Rattle.form_fields.specs.Laws.Rest.{form-long, form-values}
use Rattle.form_fields.specs.Faults.{broken_at}
use Rattle.form_fields.specs.Laws.Faults.{no_run, other}

-- A file that begins with tag 16 is no file of form 1: its first field is unknown there. So a reader of form 1 alone refuses each file of form 2,
-- and a file whose first field is tag 16 but no head of form 2 is broken at field 0.
pub old-reader-refuses : (file : List ℕ) → byte file 0 ≡ 16 → form_in form1 file ≡ broken_at 0
unfolding bank_count_in nodes_start_in node_count_in rows_start_in row_count_in values_start_in fields_before_in
old-reader-refuses file first =
    let banks : bank_count_in form1 file ≡ 0 = no_run file 16 first 1 23 (λ e. omega (arith, e)) in
    let start : nodes_start_in form1 file ≡ 0 = omega (arith, banks) in
    let nodes : node_count_in form1 file ≡ 0 = ap (run file 2 5) start ∙ no_run file 16 first 2 5 (λ e. omega (arith, e)) in
    let behind : rows_start_in form1 file ≡ 0 = omega (arith, start, nodes) in
    let rows : row_count_in form1 file ≡ 0 = ap (run file 3 (5 * node_count_in form1 file)) behind ∙ no_run file 16 first 3 (5 * node_count_in form1 file)
    (λ e. omega (arith, e)) in
    let values : values_start_in form1 file ≡ 0 = ap (λ (r : ℕ). rows_start_in form1 file + r * (3 + 5 * node_count_in form1 file)) rows ∙ omega (arith, behind) in
    let none : field_at file 4 (values_size_in form1 file) (values_start_in form1 file) ≡ false =
    ap (field_at file 4 (values_size_in form1 file)) values ∙ other file 16 first 4 (values_size_in form1 file) (λ e. omega (arith, e)) in
    let fields : fields_before_in form1 file ≡ 0 = omega (arith, banks, nodes, rows) in
    elim (dec_le (length file) 65000) [
      | yes short ↦ form-values form1 file short refl none ∙ ap broken_at fields
      | no long ↦ form-long form1 file (omega arith)
    ]
