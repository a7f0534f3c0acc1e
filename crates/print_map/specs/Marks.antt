-- Cells as the code holds them: a mark and a number for each.
use Rattle.std.specs.Prelude.{Bool, true, false, List, [], ◌++◌, ℕ, zero, suc, eqb, ℤ, pos, nat_abs, length, get_or, Option, None, Some, Result, Ok, Err}
use Rattle.std.specs.Int.Signed.{lt_z}
use Rattle.prelude.specs.Pick.{pick}
use Rattle.prelude.specs.declared.Refusal.{Refusal}
use Rattle.print_text.specs.Ascii.{ascii}
use Rattle.print_map.specs.Cells.{Cell, number, minus, none, cell_text}

abbrev pub cell_of : ℕ → ℕ → Cell
cell_of mark n = pick (eqb mark 1) (minus n) (pick (eqb mark 2) none (number n))

-- the first i cells
unfoldable pub cells_to : List ℕ → List ℕ → ℕ → List ℕ
cells_to marks numbers zero = []
cells_to marks numbers (suc i) = cells_to marks numbers i ++ (ascii " " ++ cell_text (cell_of (get_or marks i 0) (get_or numbers i 0)))

abbrev pub line_to : List ℕ → List ℕ → List ℕ → List ℕ
line_to word marks numbers = word ++ cells_to marks numbers (length numbers) ++ ascii "\n"

-- the mark of a whole number, and of one that may be absent, which is 0 then
abbrev pub sign_of : ℤ → ℕ
sign_of z = pick (lt_z z (pos 0)) 1 0

abbrev pub mark_of : Option ℕ → ℕ
mark_of None = 2
mark_of (Some n) = 0

abbrev pub value_of : Option ℕ → ℕ
value_of None = 0
value_of (Some n) = n

abbrev pub address_mark : Result ℤ Refusal → ℕ
address_mark (Ok z) = sign_of z
address_mark (Err why) = 2

abbrev pub address_value : Result ℤ Refusal → ℕ
address_value (Ok z) = nat_abs z
address_value (Err why) = 0

abbrev pub bit_of : Bool → ℕ
bit_of true = 1
bit_of false = 0
