-- A line of the map's text: a word, then cells with a space before each, and LF. A cell is a number, a number below zero with a minus, or `-` for none.
use Rattle.std.specs.Prelude.{List, [], ◌∷◌, ◌++◌, ℕ, ℤ, pos, nat_abs, Option, None, Some}
use Rattle.std.specs.Int.Signed.{lt_z}
use Rattle.prelude.specs.Pick.{pick}
use Rattle.print_text.specs.Ascii.{ascii}
use Rattle.print_text.specs.Decimal.{decimal}

pub data Cell : Type 0 where
  number : ℕ → Cell
  minus : ℕ → Cell
  none : Cell

abbrev pub cell_text : Cell → List ℕ
cell_text (number n) = decimal n
cell_text (minus n) = ascii "-" ++ decimal n
cell_text none = ascii "-"

-- text with cells behind it
unfoldable pub cells_from : List ℕ → List Cell → List ℕ
cells_from text [] = text
cells_from text (c ∷ cs) = cells_from (text ++ (ascii " " ++ cell_text c)) cs

abbrev pub line_of : List ℕ → List Cell → List ℕ
line_of word cells = word ++ cells_from [] cells ++ ascii "\n"

-- a whole number
abbrev pub signed : ℤ → Cell
signed z = pick (lt_z z (pos 0)) (minus (nat_abs z)) (number (nat_abs z))

-- a number that may be absent
abbrev pub optional : Option ℕ → Cell
optional None = none
optional (Some n) = number n
