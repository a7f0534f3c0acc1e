-- The lists of a file. Document 01: "2 node (kind 1, operand 4); 3 row (number 4 and state 1 for each node)".
use Rattle.std.specs.Prelude.{◌&&◌, List, [], ◌++◌, ◌≡◌, ℕ, zero, suc, ◌+◌, ◌*◌, leb, length, take, drop, Result, Ok, Err}
use Rattle.prelude.specs.Pick.{pick}
use Rattle.prelude.specs.declared.Refusal.TheVariants.{Malformed}
use Rattle.prelude.specs.declared.Refusal.{Refusal}
use Rattle.prelude.specs.Verdict.{Verdict, Accepted}
use Rattle.form_fields.specs.Columns.{column}
use Rattle.form_fields.specs.Words.{byte, word32}
use Rattle.form_fields.specs.declared.Kind.{Kind}
use Rattle.form_fields.specs.Kind.{kind_of}
use Rattle.form_fields.specs.Shape.{nodes_start_in, node_count_in, rows_start_in, row_count_in, form_of}
use Rattle.form_fields.specs.declared.Shape.{Shape}

-- What `read` reads of each node in each row, row by row: five bytes a node, three of header before each row.
unfoldable pub cells : (ℕ → ℕ) → ℕ → ℕ → ℕ → List ℕ
cells read nodes at zero = []
cells read nodes at (suc rows) = column read 5 at nodes ++ cells read nodes (at + (3 + 5 * nodes)) rows

module _ (k : Kind) (file : List ℕ) where
  -- each node's kind and operand, behind its header
  abbrev pub kinds_in : List ℕ
  kinds_in = column (byte file) 8 (nodes_start_in k file + 3) (node_count_in k file)

  abbrev pub operands_in : List ℕ
  operands_in = column (word32 file) 8 (nodes_start_in k file + 4) (node_count_in k file)

  -- each row's numbers and states, node by node
  abbrev pub numbers_in : List ℕ
  numbers_in = cells (word32 file) (node_count_in k file) (rows_start_in k file + 3) (row_count_in k file)

  abbrev pub states_in : List ℕ
  states_in = cells (byte file) (node_count_in k file) (rows_start_in k file + 7) (row_count_in k file)

-- the lists of a file by its own form
module _ (file : List ℕ) where
  abbrev pub kinds_of : List ℕ
  kinds_of = kinds_in (kind_of file) file

  abbrev pub operands_of : List ℕ
  operands_of = operands_in (kind_of file) file

  abbrev pub numbers_of : List ℕ
  numbers_of = numbers_in (kind_of file) file

  abbrev pub states_of : List ℕ
  states_of = states_in (kind_of file) file

-- The value bytes: a part of a sound file.
abbrev pub values_by : List ℕ → Result Shape Refusal → List ℕ
values_by file (Ok s) = take s.size (drop s.values file)
values_by file (Err r) = []

-- What reading the values promises.
abbrev pub ValuesAre : List ℕ → List ℕ → Type 0
ValuesAre file answer = answer ≡ values_by file (form_of file)

-- Whether the lists fit what is lent: "4 .. in a layout the node, or field 0, 1, 2 for node count, row count, limit".
abbrev pub lists_verdict : Result Shape Refusal → ℕ → ℕ → ℕ → ℕ → Verdict
lists_verdict (Err r) kinds operands numbers states = Err r
lists_verdict (Ok s) kinds operands numbers states =
    pick (leb s.nodes kinds && leb s.nodes operands)
    (pick (leb (s.rows * s.nodes) numbers && leb (s.rows * s.nodes) states) Accepted (Err (Malformed 1)))
    (Err (Malformed 0))

-- What a lent list holds afterwards: what was read, then its old contents; all of those where the call is refused.
abbrev pub list_after : Verdict → List ℕ → List ℕ → List ℕ
list_after Accepted new old = new ++ drop (length new) old
list_after (Err r) new old = old

-- What reading the lists promises: its answer, and each of the four lists.
pub record Lists (file kinds operands numbers states : List ℕ) (answer : Verdict) (kinds' operands' numbers' states' : List ℕ) : Type 0 where
  pub verdict : answer ≡ lists_verdict (form_of file) (length kinds) (length operands) (length numbers) (length states)
  pub of-kinds : kinds' ≡ list_after answer (kinds_of file) kinds
  pub of-operands : operands' ≡ list_after answer (operands_of file) operands
  pub of-numbers : numbers' ≡ list_after answer (numbers_of file) numbers
  pub of-states : states' ≡ list_after answer (states_of file) states
