-- What stands where in a file of either form, and which file is broken. Document 01: "in this order: 1 bank (..); 2 node (..); 3 row (..);
-- 4 values, one field; 5 pass limit, 1 byte. A broken file (a field missing, unknown, out of order or extra, a wrong length, flags
-- above 15) is 4 with the first such field's index, from 0. Having no bank, node or row is a count of 0, not a broken file."
use Rattle.std.specs.Prelude.{true, not, List, ◌≡◌, ℕ, ◌+◌, ◌*◌, ◌≤◌, ltb, length, Result, Err, Ok}
use Rattle.prelude.specs.Pick.{pick}
use Rattle.prelude.specs.declared.Refusal.TheVariants.{Malformed}
use Rattle.prelude.specs.declared.Refusal.{Refusal}
use Rattle.form_fields.specs.declared.Kind.{Kind}
use Rattle.form_fields.specs.declared.Shape.{Shape}
use Rattle.form_fields.specs.Words.{byte, word16}
use Rattle.form_fields.specs.Fields.{field_at, run}
use Rattle.form_fields.specs.Kind.{kind_of, headed}

module _ (k : Kind) (file : List ℕ) where
  -- "1 bank (unit 2 bytes, signed start 8, size 4, offset 4, label alignment 4, flags 1)": 23 bytes, 26 with the header; one more in form 2,
  -- where the head stands before them, 4 bytes with its header
  unfoldable pub bank_count_in : ℕ
  bank_count_in = run file k.tag k.bank (k.heads * 4)

  -- "2 node (kind 1, operand 4)": 5 bytes, 8 with the header, behind the banks
  unfoldable pub nodes_start_in : ℕ
  nodes_start_in = k.heads * 4 + bank_count_in * (3 + k.bank)

  unfoldable pub node_count_in : ℕ
  node_count_in = run file 2 5 nodes_start_in

  -- "3 row (number 4 and state 1 for each node)", behind the nodes
  unfoldable pub rows_start_in : ℕ
  rows_start_in = nodes_start_in + node_count_in * 8

  unfoldable pub row_count_in : ℕ
  row_count_in = run file 3 (5 * node_count_in) rows_start_in

  -- "4 values, one field", of any length, behind the rows
  unfoldable pub values_start_in : ℕ
  values_start_in = rows_start_in + row_count_in * (3 + 5 * node_count_in)

  unfoldable pub values_size_in : ℕ
  values_size_in = word16 file (values_start_in + 1)

  -- "5 pass limit, 1 byte"
  unfoldable pub limit_start_in : ℕ
  limit_start_in = values_start_in + 3 + values_size_in

  -- The index of the field behind the rows: as many fields stand before it, the head too.
  unfoldable pub fields_before_in : ℕ
  fields_before_in = k.heads + bank_count_in + node_count_in + row_count_in

  -- What a sound file says, but for its lists.
  unfoldable pub shape_in : Shape
  shape_in =
      record {
        form = k.form;
        banks = bank_count_in;
        nodes = node_count_in;
        rows = row_count_in;
        values = values_start_in + 3;
        size = values_size_in;
        limit = byte file (limit_start_in + 3);
      }

  -- "at most 65,000 bytes (longer: 4, place 0)"; "Form 2 may have 65,536 bytes". A head that is not there, no values field behind the rows, no
  -- limit behind the values, and anything behind the limit: that is the first field at which no valid file can go on; where the file ends there,
  -- its index is the number of fields.
  unfoldable pub form_in : Result Shape Refusal
  form_in =
      pick (ltb k.longest (length file)) (Err (Malformed 0))
      (pick (not (headed k file)) (Err (Malformed 0))
      (pick (not (field_at file 4 values_size_in values_start_in)) (Err (Malformed fields_before_in))
      (pick (not (field_at file 5 1 limit_start_in)) (Err (Malformed (fields_before_in + 1)))
      (pick (ltb (limit_start_in + 4) (length file)) (Err (Malformed (fields_before_in + 2)))
      (Ok shape_in)))))

  -- What is known of a file that is short enough and has its head, once its banks, nodes and rows are counted, and where the values must stand.
  pub record Counted (banks nodes rows at : ℕ) : Type 0 where
    pub short : length file ≤ k.longest
    pub head : headed k file ≡ true
    pub of-banks : banks ≡ bank_count_in
    pub of-nodes : nodes ≡ node_count_in
    pub of-rows : rows ≡ row_count_in
    pub behind : at ≡ values_start_in

-- ---- a file by its own form

module _ (file : List ℕ) where
  abbrev pub bank_count : ℕ
  bank_count = bank_count_in (kind_of file) file

  abbrev pub nodes_start : ℕ
  nodes_start = nodes_start_in (kind_of file) file

  abbrev pub row_count : ℕ
  row_count = row_count_in (kind_of file) file

  abbrev pub form_of : Result Shape Refusal
  form_of = form_in (kind_of file) file
