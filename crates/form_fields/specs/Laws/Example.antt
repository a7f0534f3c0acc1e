-- Laws that Theorems/Example rests on.
use Rattle.std.specs.Prelude.{true, false, [], ◌∷◌, ◌++◌, ◌≡◌, refl, ℕ, pos, take, set, None, Some, Err}
use Rattle.prelude.specs.declared.Refusal.TheVariants.{Malformed}
use Rattle.form_fields.specs.Words.{word16}
use Rattle.form_fields.specs.Fields.{field_at, sound_at, run_in, run}
use Rattle.form_fields.specs.Kind.{begins2, kind_of}
use Rattle.form_fields.specs.Shape.{bank_count_in, nodes_start_in, node_count_in, rows_start_in, row_count_in, values_start_in, values_size_in}
use Rattle.form_fields.specs.Shape.{limit_start_in, fields_before_in}
use Rattle.form_fields.specs.Shape.{shape_in, form_in, form_of}
use Rattle.form_fields.specs.Writer.{Node, Cell, Layout}
use Rattle.form_fields.specs.Example.{example_file}

node : ℕ → ℕ → Node
node kind operand = record { kind = kind; operand = operand }

cell : ℕ → Cell
cell number = record { number = number; state = 0 }

-- "Input: bank 0 unit 8, rest zero; bank 1 unit 10, start 64, size 40, offset 0, flags 11; nodes switch 1, label depth 0, declared data
-- at bit 0, reserve, instruction at bit 16; one row 0, 0, 10, 10, 10, all states 0; values FF C0 2A 80; limit 10."
unfoldable pub example : Layout
unfolding node cell
example =
    record {
      banks =
          record { unit = 8; start = pos 0; size = None; offset = None; align = None; fill = false; fill_bit = 0 }
          ∷ record { unit = 10; start = pos 64; size = Some 40; offset = Some 0; align = None; fill = true; fill_bit = 0 }
          ∷ [];
      nodes = node 1 1 ∷ node 2 0 ∷ node 5 0 ∷ node 7 0 ∷ node 4 16 ∷ [];
      rows = (cell 0 ∷ cell 0 ∷ cell 10 ∷ cell 10 ∷ cell 10 ∷ []) ∷ [];
      values = 0xff ∷ 0xc0 ∷ 0x2a ∷ 0x80 ∷ [];
      limit = 10;
    }

-- Broken files, each with the index of the first field at fault: an empty one; one cut in its first header; flags 16; an unknown tag; a
-- bank behind a node; a row of four numbers for five nodes; values and limit missing; the limit missing; a byte behind the limit.
pub example-broken :
    (form_of [] ≡ Err (Malformed 0))
    × (form_of (take 2 example_file) ≡ Err (Malformed 0))
    × (form_of (set example_file 25 16) ≡ Err (Malformed 0))
    × (form_of (take 52 example_file ++ (6 ∷ 0 ∷ 0 ∷ [])) ≡ Err (Malformed 2))
    × (form_of (take 60 example_file ++ take 26 example_file) ≡ Err (Malformed 3))
    × (form_of (set example_file 94 20) ≡ Err (Malformed 7))
    × (form_of (take 120 example_file) ≡ Err (Malformed 8))
    × (form_of (take 127 example_file) ≡ Err (Malformed 9))
    × (form_of (example_file ++ (0 ∷ [])) ≡ Err (Malformed 10))
unfolding example_file begins2 kind_of form_in shape_in bank_count_in nodes_start_in node_count_in rows_start_in row_count_in values_start_in values_size_in limit_start_in
    fields_before_in run run_in sound_at field_at word16
example-broken = (refl, refl, refl, refl, refl, refl, refl, refl, refl)
