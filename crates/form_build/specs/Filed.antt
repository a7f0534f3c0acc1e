-- A layout file, laid out: what it says goes to the build.
use Rattle.std.specs.Prelude.{◌≡◌, List, ℕ, ◌*◌, ◌≤◌, eqb, length, take, Option, Result, Err, Ok}
use Rattle.prelude.specs.declared.Refusal.{Refusal}
use Rattle.form_fields.specs.declared.Shape.{Shape}
use Rattle.form_fields.specs.Shape.{form_of, row_count}
use Rattle.form_fields.specs.Banks.{table_of}
use Rattle.form_fields.specs.Lists.{kinds_of, operands_of, numbers_of, states_of, values_by}
use Rattle.nodes.specs.Lists.{Lists, lists}
use Rattle.resolver.specs.declared.Choices.{Choices}
use Rattle.resolver.specs.Passes.{program, row_of_pass}
use Rattle.build_visits.specs.Visits.{visits}
use Rattle.output.specs.Output.{input, Lent, Room, room_of, refused_after, left_by}
use Rattle.build_visits.specs.declared.Visit.{Visit}
use Rattle.output.specs.declared.Output.{Output}
use Rattle.form_build.specs.Paged.{output_in}

-- the lists and the value bytes of a file
abbrev pub lists_in : List ℕ → Lists
lists_in file =
    lists (kinds_of file) (operands_of file) (numbers_of file) (states_of file) (row_count file) (values_by file (form_of file))

-- What a file chooses, with the fill's choice ("No form carries the choice"): its limit, and whether bank 0 may be used: "From form 2 on, labels, written
-- items and reserves in bank 0 are refused even when it is alone. Form 1 files that use it are still read and compared as before."
abbrev pub choices_of : Shape → ℕ → Choices
choices_of s fill = record { limit = s.limit; fill = fill; closed = eqb s.form 2 }

-- "A broken file .. is 4 with the first such field's index", and no pass runs; a sound one is built.
abbrev pub output_by : List ℕ → ℕ → Option ℕ → Room → Result Shape Refusal → Output
output_by file fill page room (Err why) = refused_after 0 why
output_by file fill page room (Ok s) = output_in page (input (table_of file) (lists_in file) (choices_of s fill)) room

abbrev pub file_output : List ℕ → ℕ → Option ℕ → Room → Output
file_output file fill page room = output_by file fill page room (form_of file)

-- a file's nodes, visited in the row of the last of so many passes
abbrev pub file_visits : List ℕ → ℕ → List Visit
file_visits file passes = visits (program (table_of file) (lists_in file)) (row_of_pass (lists_in file) passes)

-- The build of a file: its answer, and everything lent afterwards.
pub record FileBuilt (file : List ℕ) (fill : ℕ) (page : Option ℕ) (old : Lent) (r : Output) (new : Lent) : Type 0 where
  pub answer : r ≡ file_output file fill page (room_of old)
  pub left : new ≡ left_by (table_of file) (file_visits file r.passes) (lists_in file).values old r.build

-- The lists of a sound file stand in the front of four lists.
pub record HeldIn (file : List ℕ) (s : Shape) (kinds operands numbers states : List ℕ) : Type 0 where
  pub sound : form_of file ≡ Ok s
  pub few : s.rows * s.nodes ≤ 65536
  pub kinds-fit : s.nodes ≤ length kinds
  pub operands-fit : s.nodes ≤ length operands
  pub numbers_fit : s.rows * s.nodes ≤ length numbers
  pub states-fit : s.rows * s.nodes ≤ length states
  pub of-kinds : take s.nodes kinds ≡ kinds_of file
  pub of-operands : take s.nodes operands ≡ operands_of file
  pub of-numbers : take (s.rows * s.nodes) numbers ≡ numbers_of file
  pub of-states : take (s.rows * s.nodes) states ≡ states_of file
