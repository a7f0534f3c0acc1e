-- What a call of the converter that did not refuse has written, and what is then known of the file: from the contract alone.
use Rattle.std.specs.Prelude.{Bool, false, List, ◌≡◌, ℕ, ◌≤◌, max, length, take, Ok}
use Rattle.prelude.specs.Limits.{max_nodes, max_rows}
use Rattle.form_fields.specs.declared.Kind.{Kind}
use Rattle.form_fields.specs.declared.Shape.{Shape}
use Rattle.form_fields.specs.Contents.{Contents, written, Fits}
use Rattle.form_fields.specs.Shape.{form_in}
use Rattle.form_fields.specs.Whole.{contents_in}
use Rattle.form_convert.specs.Convert.{stray}

-- What is known of a conversion that is not refused.
pub record Allowed (nodes rows first count size longest : ℕ) (drops : Bool) (room n : ℕ) : Type 0 where
  pub few : nodes ≤ max_nodes
  pub few-rows : rows ≤ max_rows
  pub none-strays : count ≤ first
  pub short : size ≤ longest
  pub none_dropped : drops ≡ false
  pub fits : size ≤ room
  pub size_is : size ≡ n

-- A file that was converted: it is sound, and so the writer's of its contents; what was written is the other form's file of what they become.
pub record Turned (from to : Kind) (turn : Contents → Contents) (drops : Contents → Bool) (file old : List ℕ) (n : ℕ) (new : List ℕ) : Type 0 where
  pub shape : Shape
  pub sound : form_in from file ≡ Ok shape
  pub fits : Fits from (contents_in from file)
  pub is : written from (contents_in from file) ≡ file
  pub short : length (written from (contents_in from file)) ≤ from.longest
  pub made : take n new ≡ written to (turn (contents_in from file))
  pub answer : Allowed (max (length (contents_in from file).nodes) (length (turn (contents_in from file)).nodes)) (length (contents_in from file).rows)
      (stray (contents_in from file)) (length (contents_in from file).nodes) (length (written to (turn (contents_in from file)))) to.longest
      (drops (contents_in from file)) (length old) n
