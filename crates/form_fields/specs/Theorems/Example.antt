-- Theorems about what Example defines.
use Rattle.std.specs.Prelude.{◌≡◌, refl, Ok}
use Rattle.form_fields.specs.Words.{word16}
use Rattle.form_fields.specs.Fields.{field_at, sound_at, run_in, run}
use Rattle.form_fields.specs.Kind.{form1, begins2, kind_of}
use Rattle.form_fields.specs.Shape.{bank_count_in, nodes_start_in, node_count_in, rows_start_in, row_count_in, values_start_in, values_size_in}
use Rattle.form_fields.specs.Shape.{limit_start_in, fields_before_in}
use Rattle.form_fields.specs.Shape.{shape_in, form_in, form_of}
use Rattle.form_fields.specs.Contents.{bytes16, bytes32, bytes64, field, flat, written}
use Rattle.form_fields.specs.Writer.{flags_of, bank_bytes, encode}
use Rattle.form_fields.specs.Example.{example_file, example_file2}
use Rattle.form_fields.specs.Laws.Example.{example}

pub example-is : encode form1 example ≡ example_file
unfolding example example_file encode written flat field bank_bytes flags_of bytes64 bytes32 bytes16
example-is = refl

-- ---- the definitions, run on that file and on files made of it

-- It is sound, with two banks, five nodes and one row; the four value bytes start at byte 123, and the limit is 10.
pub example-sound : form_of example_file ≡ Ok (record { form = 1; banks = 2; nodes = 5; rows = 1; values = 123; size = 4; limit = 10 })
unfolding example_file begins2 kind_of form_in shape_in bank_count_in nodes_start_in node_count_in rows_start_in row_count_in values_start_in values_size_in limit_start_in
    fields_before_in run run_in sound_at field_at word16
example-sound = refl

pub example2-sound : form_of example_file2 ≡ Ok (record { form = 2; banks = 2; nodes = 5; rows = 1; values = 129; size = 4; limit = 10 })
unfolding example_file example_file2 begins2 kind_of form_in shape_in bank_count_in nodes_start_in node_count_in rows_start_in row_count_in values_start_in values_size_in
    limit_start_in fields_before_in run run_in sound_at field_at word16
example2-sound = refl
