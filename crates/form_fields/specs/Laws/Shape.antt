-- Laws that proofs about Shape need.
use Rattle.std.specs.Prelude.{List, ℕ}
use Rattle.form_fields.specs.Kind.{kind_of}
use Rattle.form_fields.specs.Shape.{node_count_in, rows_start_in}

-- ---- a file by its own form

module _ (file : List ℕ) where
  abbrev pub node_count : ℕ
  node_count = node_count_in (kind_of file) file

  abbrev pub rows_start : ℕ
  rows_start = rows_start_in (kind_of file) file
