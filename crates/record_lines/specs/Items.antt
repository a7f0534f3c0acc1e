-- What a line of a file says, and what a format is.
use Rattle.std.specs.Prelude.{◌≡◌, ℕ, ◌+◌, ◌*◌, ◌≤◌, List, length, ◌==◌}
use Rattle.prelude.specs.Pick.{pick}
use Rattle.record_lines.specs.Digits.{bytes_at}
use Rattle.record_lines.specs.declared.Line.{Line}

-- A line gives bytes from an address on, or gives none, or is the end record; in the first two cases with the state that is in force behind it.
-- Any other line is bad.
pub data Item : Type 0 where
  gives : ℕ → List ℕ → ℕ → Item
  passes : ℕ → Item
  ends : Item
  bad : Item

-- A format tells what a line's characters say while a state is in force. At first it is 0. (Intel HEX: the upper half of addresses. S-records: the
-- width of the file's addresses, 0 before it is known.)
abbrev pub Format : Type 0
Format = ℕ → List ℕ → Item

-- A line as the code hands it on: its kind (1 gives bytes, 2 passes, 3 ends, 0 bad), and where in the line its bytes are spelled.
abbrev pub plain_line : ℕ → ℕ → Line
plain_line kind state = record { kind = kind; address = 0; first = 0; count = 0; state = state }

abbrev pub as_line : ℕ → ℕ → Item → Line
as_line state first (gives address bytes after) = record { kind = 1; address = address; first = first; count = length bytes; state = after }
as_line state first (passes after) = plain_line 2 after
as_line state first ends = plain_line 3 state
as_line state first bad = plain_line 0 state

-- and what such a line says.
abbrev pub item_of : List ℕ → Line → Item
item_of line r =
    pick (r.kind == 1) (gives r.address (bytes_at line r.first r.count) r.state)
    (pick (r.kind == 2) (passes r.state) (pick (r.kind == 3) ends bad))

-- What a function promises that reads a line, whose bytes begin at its character `first`.
pub record Says (line : List ℕ) (state first : ℕ) (r : Line) (item : Item) : Type 0 where
  pub answer : r ≡ as_line state first item
  pub says : item_of line r ≡ item
  pub room : r.first + 2 * r.count ≤ length line
