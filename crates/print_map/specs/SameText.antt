-- Two maps as they are printed, and what is the same of them where their texts are.
use Rattle.std.specs.Prelude.{◌≡◌, List, ℕ, ◌<◌, min, get_or, Option, Err, Ok}
use Rattle.prelude.specs.Limits.{max_banks}
use Rattle.prelude.specs.declared.Refusal.{Refusal}
use Rattle.bankdef.specs.declared.Bankdefs.{Bankdefs}
use Rattle.iter.specs.Address.{address_of}
use Rattle.iter.specs.Step.{no_lost}
use Rattle.nodes.specs.Lists.{Row}
use Rattle.resolver.specs.Once.{Program, bank_record}
use Rattle.resolver.specs.Passes.{program, row_of_pass}
use Rattle.form_fields.specs.Shape.{form_of}
use Rattle.form_fields.specs.declared.Shape.{Shape}
use Rattle.build_map.specs.Map.{bank_shown, position_shown, output_shown, size_shown}
use Rattle.build_map.specs.declared.Map.{Map}
use Rattle.print_map.specs.Cells.{Cell}
use Rattle.print_map.specs.ReadBack.{Columns, SameColumns}
use Rattle.print_map.specs.Text.{address_cell, input_of, map_in, mapped_text}

-- what is printed: a file's shape, its banks, its nodes over a row, and their map
pub record Printed : Type 0 where
  pub shape : Shape
  pub banks : Bankdefs
  pub program : Program
  pub row : Row
  pub map : Map

abbrev pub text_of : Printed → List ℕ
text_of x = mapped_text x.shape x.banks x.program x.row x.map

-- how many banks have a line
abbrev pub bank_lines : Printed → ℕ
bank_lines x = min x.banks.len max_banks

-- the columns of node i
abbrev pub columns_of : Printed → ℕ → Columns
columns_of x i =
    record {
      node = i;
      kind = get_or x.program.kinds i 0;
      bank = bank_shown x.program x.row i;
      position = position_shown x.program x.row i;
      output = output_shown x.program x.row i;
      size = size_shown x.program x.row i;
    }

-- the address of node i, as it is printed
abbrev pub address_at : Printed → ℕ → Cell
address_at x i = address_cell (address_of (bank_record x.program.banks (columns_of x i).bank) (columns_of x i).position i)

-- The same file line, bank for bank the same record and padding, node for node the same columns, the same node at fault and the same verdict.
pub record Same (x y : Printed) : Type 0 where
  pub shape : (x.shape.form ≡ y.shape.form) × (x.shape.limit ≡ y.shape.limit) × (x.shape.rows ≡ y.shape.rows) × (x.shape.nodes ≡ y.shape.nodes)
  pub passes : x.map.passes ≡ y.map.passes
  pub banks : bank_lines x ≡ bank_lines y
  pub bank : (i : ℕ) → i < bank_lines x
      → (bank_record x.banks i ≡ bank_record y.banks i) × (get_or x.map.padding i no_lost ≡ get_or y.map.padding i no_lost)
  pub nodes : x.map.nodes ≡ y.map.nodes
  pub node : (i : ℕ) → i < x.map.nodes → SameColumns (columns_of x i) (columns_of y i)
  pub address : (i : ℕ) → i < x.map.nodes → address_at x i ≡ address_at y i
  pub fault : x.map.fault ≡ y.map.fault
  pub verdict : x.map.verdict ≡ y.map.verdict

-- what is printed of a sound file
abbrev pub printed_of : List ℕ → ℕ → Option ℕ → Shape → Printed
printed_of file fill page s =
    record {
      shape = s;
      banks = (input_of file s fill).banks;
      program = program (input_of file s fill).banks (input_of file s fill).lists;
      row = row_of_pass (input_of file s fill).lists (map_in page (input_of file s fill)).passes;
      map = map_in page (input_of file s fill);
    }

-- Two files, each with a fill's choice and a page size: both broken, for one reason, or both sound, and then their maps are the same.
pub data SameFiles (file other : List ℕ) (fill fill' : ℕ) (page page' : Option ℕ) : Type 0 where
  broken : (why : Refusal) → form_of file ≡ Err why → form_of other ≡ Err why → SameFiles file other fill fill' page page'
  sound : (s t : Shape) → form_of file ≡ Ok s → form_of other ≡ Ok t → Same (printed_of file fill page s) (printed_of other fill' page' t)
      → SameFiles file other fill fill' page page'
