-- What a file says, whatever its format: its lines are read one after the other. Document 02, Ticket 1: "a byte given twice or below the load address
-- is a bad
-- file"; "4 for .. an address past 2^32 - 1 or a bad file". Ticket 12: "as in Ticket 1".
use Rattle.std.specs.Prelude.{Bool, true, false, ◌&&◌, ◌||◌, List, [], ◌∷◌, ◌++◌, ℕ, suc, leb, eqb}
use Rattle.prelude.specs.Pick.{pick}
use Rattle.record_lines.specs.Items.{Item, gives, passes, ends, bad, Format}
use Rattle.record_lines.specs.Lines.{lines_of}
use Rattle.record_lines.specs.Pieces.{Piece, piece, end_of}
use Rattle.record_ihex_line.specs.Format.{hex_item}
use Rattle.record_srec_line.specs.Srec.{srec_item}

-- The formats: 0 is Intel HEX, every other number S-records.
abbrev pub format_by : ℕ → Format
format_by format state line = pick (eqb format 0) (hex_item state line) (srec_item state line)

-- The pieces of a sound file, or the first line at which no good file can go on, from 0.
pub data Read : Type 0 where
  sound : List Piece → Read
  faulty : ℕ → Read

abbrev pub later : Read → Read
later (sound pieces) = sound pieces
later (faulty line) = faulty (suc line)

-- The piece that a line gives, if it has a byte: "One of count 0 gives no byte and its address isn't tested."
abbrev pub new_pieces : Item → List Piece
new_pieces (gives address [] state) = []
new_pieces (gives address (b ∷ l) state) = piece address (b ∷ l) ∷ []
new_pieces (passes state) = []
new_pieces ends = []
new_pieces bad = []

-- and the state behind it.
abbrev pub state_after : ℕ → Item → ℕ
state_after before (gives address bytes state) = state
state_after before (passes state) = state
state_after before ends = before
state_after before bad = before

-- No byte from the address `first` on and below `end` is among those given.
unfoldable pub is_new : List Piece → ℕ → ℕ → Bool
is_new [] first end = true
is_new (p ∷ l) first end = (leb (end_of p) first || leb end p.address) && is_new l first end

-- Nothing "below the load address", nothing "past 2^32 - 1", nothing "given twice".
abbrev pub fine : ℕ → List Piece → List Piece → Bool
fine load given [] = true
fine load given (p ∷ l) = leb load p.address && leb (end_of p) 4294967296 && is_new given p.address (end_of p)

abbrev pub is_none : List (List ℕ) → Bool
is_none [] = true
is_none (l ∷ ls) = false

-- One line: the lines behind it go on with its state and its piece. Nothing stands behind the end record.
abbrev pub go_on : ℕ → List Piece → Bool → (ℕ → List Piece → Read) → Item → Read
go_on load given last rest (gives address bytes state) =
    pick (fine load given (new_pieces (gives address bytes state))) (later (rest state (given ++ new_pieces (gives address bytes state)))) (faulty 0)
go_on load given last rest (passes state) = later (rest state given)
go_on load given last rest ends = pick last (sound given) (faulty 1)
go_on load given last rest bad = faulty 0

-- Lines, while a state is in force and pieces are given. A file without an end record is at fault behind its last line.
unfoldable pub read_from : Format → ℕ → List (List ℕ) → ℕ → List Piece → Read
read_from f load [] state given = faulty 0
read_from f load (l ∷ ls) state given = go_on load given (is_none ls) (read_from f load ls) (f state l)

-- A file: no state is in force and nothing is given.
abbrev pub read_text : ℕ → ℕ → List ℕ → Read
read_text format load text = read_from (format_by format) load (lines_of text) 0 []
