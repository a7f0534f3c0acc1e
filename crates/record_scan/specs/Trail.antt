-- Where a reader stands after some lines of a text: the place of the next line, the state in force, and the pieces given.
use Rattle.std.specs.Prelude.{List, [], ◌++◌, ℕ, zero, suc, ◌+◌, drop}
use Rattle.record_lines.specs.Items.{Item}
use Rattle.record_lines.specs.Lines.{first_line, taken}
use Rattle.record_lines.specs.Pieces.{Piece}
use Rattle.record_scan.specs.Reading.{format_by, new_pieces, state_after}

pub record Trail : Type 0 where
  pub at : ℕ
  pub state : ℕ
  pub given : List Piece

-- The line at a place, and what it says.
abbrev pub line_at : List ℕ → ℕ → List ℕ
line_at text at = first_line (drop at text)

abbrev pub item_at : ℕ → List ℕ → ℕ → ℕ → Item
item_at format text at state = format_by format state (line_at text at)

abbrev pub next_of : List ℕ → ℕ → ℕ
next_of text at = at + taken (drop at text)

unfoldable pub trail : ℕ → List ℕ → ℕ → Trail
trail format text zero = record { at = 0; state = 0; given = [] }
trail format text (suc n) =
    let t = trail format text n in
    let item = item_at format text t.at t.state in
    record { at = next_of text t.at; state = state_after t.state item; given = t.given ++ new_pieces item }
