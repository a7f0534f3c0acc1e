-- Every file is broken, or it is the writer's of exactly one list of fields, bank bytes whole: nothing that stands in a sound file is outside its
-- fields, and no two lists of fields have one file.
use Rattle.std.specs.Prelude.{List, [], ◌∷◌, ◌++◌, map, ◌≡◌, ℕ, ◌+◌, ◌*◌, ◌<◌, eqb, get_or, take, drop, Err}
use Rattle.prelude.specs.Pick.{pick}
use Rattle.prelude.specs.declared.Refusal.{Refusal}
use Rattle.form_fields.specs.declared.Kind.{Kind}
use Rattle.form_fields.specs.Words.{byte}
use Rattle.form_fields.specs.Columns.{column}
use Rattle.form_fields.specs.Shape.{bank_count_in, nodes_start_in, node_count_in, rows_start_in, row_count_in, values_start_in, values_size_in, limit_start_in, form_in}
use Rattle.form_fields.specs.Contents.{field, flat, Contents, Fits}

-- ---- a list of fields, and its file

pub record Field : Type 0 where
  pub tag : ℕ
  pub payload : List ℕ

abbrev pub tagged : ℕ → List ℕ → Field
tagged tag payload = record { tag = tag; payload = payload }

abbrev pub field_bytes : Field → List ℕ
field_bytes f = field f.tag f.payload

unfoldable pub file_of : List Field → List ℕ
file_of fields = flat field_bytes fields

-- The fields of some contents, in the form's order.
abbrev pub head_fields : Kind → List Field
head_fields k = pick (eqb k.heads 0) [] (tagged 16 (2 ∷ []) ∷ [])

abbrev pub fields_of : Kind → Contents → List Field
fields_of k c =
    head_fields k
    ++ (map (tagged k.tag) c.banks
    ++ (map (tagged 2) c.nodes ++ (map (tagged 3) c.rows ++ (tagged 4 c.values ∷ tagged 5 (c.limit ∷ []) ∷ []))))

-- ---- what a file holds

-- a part of it
abbrev pub part : List ℕ → ℕ → ℕ → List ℕ
part file len at = take len (drop at file)

-- its contents: the payload of each field, behind its header
abbrev pub contents_in : Kind → List ℕ → Contents
contents_in k file =
    record {
      banks = column (part file k.bank) (3 + k.bank) (k.heads * 4 + 3) (bank_count_in k file);
      nodes = column (part file 5) 8 (nodes_start_in k file + 3) (node_count_in k file);
      rows = column (part file (5 * node_count_in k file)) (3 + 5 * node_count_in k file) (rows_start_in k file + 3) (row_count_in k file);
      values = part file (values_size_in k file) (values_start_in k file + 3);
      limit = byte file (limit_start_in k file + 3);
    }

-- A file holds bytes.
abbrev pub Bytes : List ℕ → Type 0
Bytes file = (i : ℕ) → get_or file i 0 < 256

-- Every file within its form's length is the writer's of exactly one list of fields, bank bytes whole, or broken.
pub data BrokenOrWritten (k : Kind) (file : List ℕ) : Type 0 where
  broken : (why : Refusal) → form_in k file ≡ Err why → BrokenOrWritten k file
  written_once : (c : Contents) → Fits k c → file_of (fields_of k c) ≡ file → ((fs : List Field) → file_of fs ≡ file → fs ≡ fields_of k c)
      → BrokenOrWritten k file
