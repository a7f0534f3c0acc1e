-- What a caller of the converter is told, in the documents' figures: each refusal exactly when, in their order, and otherwise the length of the result.
use Rattle.std.specs.Prelude.{ℕ, ◌≤◌, ◌<◌, max, Bool, true, false, List, ◌≡◌, length, Result, Ok, Err}
use Rattle.prelude.specs.Limits.{max_nodes, max_rows}
use Rattle.prelude.specs.Told.{Told, gives, refuses, told_refusal}
use Rattle.prelude.specs.declared.Place.{Place}
use Rattle.prelude.specs.declared.Place.TheVariants.{One}
use Rattle.prelude.specs.declared.Refusal.{Refusal}
use Rattle.form_fields.specs.declared.Kind.{Kind}
use Rattle.form_fields.specs.declared.Shape.{Shape}
use Rattle.form_fields.specs.Contents.{Contents, written}
use Rattle.form_fields.specs.Kind.{form1, form2}
use Rattle.form_fields.specs.Shape.{form_in}
use Rattle.form_fields.specs.Told.{told_form}
use Rattle.form_fields.specs.Whole.{contents_in}
use Rattle.form_convert.specs.Convert.{stray, drops_none}
use Rattle.form_rewrite.specs.Turning.{to_form2, to_form1, drops_bit}

abbrev pub told_conversion : Result ℕ Refusal → Told ℕ
told_conversion (Ok n) = gives n
told_conversion (Err why) = told_refusal why

-- The counts are within their limits, and no one-bank file names another bank.
pub record Counts (c d : Contents) : Type 0 where
  pub nodes : max (length c.nodes) (length d.nodes) ≤ max_nodes
  pub rows : length c.rows ≤ max_rows
  pub names : length c.nodes ≤ stray c

pub data ConvertTold (k : Kind) (form : Result Shape Refusal) (c d : Contents) (drops : Bool) (room : ℕ) : Told ℕ → Type 0 where
  -- "4 for a broken file": with the field's index
  broken : {n : ℕ} {place : Place} → told_form form ≡ refuses n place → ConvertTold k form c d drops room (refuses n place)
  -- "past 4,096 nodes or 16 rows, in file or result"
  nodes : (s : Shape) → form ≡ Ok s → max_nodes < max (length c.nodes) (length d.nodes) → ConvertTold k form c d drops room (refuses 4 (One 0))
  rows : (s : Shape) → form ≡ Ok s → max (length c.nodes) (length d.nodes) ≤ max_nodes → max_rows < length c.rows
      → ConvertTold k form c d drops room (refuses 4 (One 1))
  -- "or for a one-bank file that names another bank": the node
  names : (s : Shape) → form ≡ Ok s → max (length c.nodes) (length d.nodes) ≤ max_nodes → length c.rows ≤ max_rows
      → stray c < length c.nodes → ConvertTold k form c d drops room (refuses 4 (One (stray c)))
  -- "or a result past its form's length"
  long : (s : Shape) → form ≡ Ok s → Counts c d → k.longest < length (written k d) → ConvertTold k form c d drops room (refuses 4 (One 0))
  -- "then 18 (new) for a way back that would drop a fill bit of one"
  bit : (s : Shape) → form ≡ Ok s → Counts c d → length (written k d) ≤ k.longest → drops ≡ true
      → ConvertTold k form c d drops room (refuses 18 (One 0))
  -- "then 14"
  short : (s : Shape) → form ≡ Ok s → Counts c d → length (written k d) ≤ k.longest → drops ≡ false → room < length (written k d)
      → ConvertTold k form c d drops room (refuses 14 (One 0))
  taken : (s : Shape) → form ≡ Ok s → Counts c d → length (written k d) ≤ k.longest → drops ≡ false → length (written k d) ≤ room
      → ConvertTold k form c d drops room (gives (length (written k d)))

-- What the two calls tell.
abbrev pub TellsForm2 : List ℕ → List ℕ → Result ℕ Refusal → Type 0
TellsForm2 file old answer =
    let c = contents_in form1 file in
    ConvertTold form2 (form_in form1 file) c (to_form2 c) (drops_none c) (length old) (told_conversion answer)

abbrev pub TellsForm1 : List ℕ → List ℕ → Result ℕ Refusal → Type 0
TellsForm1 file old answer =
    let c = contents_in form2 file in
    ConvertTold form1 (form_in form2 file) c (to_form1 c) (drops_bit c) (length old) (told_conversion answer)
