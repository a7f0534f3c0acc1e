-- The address of a position, the boundary, and the output position (document 01, "The walk").
use Rattle.std.specs.Prelude.{ℕ, ◌+◌, ◌/◌, ◌%◌, Bool, eqb, ℤ, pos, ◌+ℤ◌, Result, Ok, Err, Option, None, Some}
use Rattle.prelude.specs.Pick.{pick}
use Rattle.prelude.specs.declared.Refusal.TheVariants.{Malformed}
use Rattle.prelude.specs.declared.Refusal.{Refusal}
use Rattle.bankdef.specs.declared.Bankdef.{Bankdef}
use Rattle.iter.specs.Distance.{tellable}

-- "The address is the start plus the whole units in the position"
abbrev pub units_from : Bankdef → ℕ → ℤ
units_from def position = def.start +ℤ pos (position / def.unit)

unfoldable pub address_of : Bankdef → ℕ → ℕ → Result ℤ Refusal
address_of def position node = pick (tellable def) (Ok (units_from def position)) (Err (Malformed node))

-- "on a boundary": no bits beyond whole units
abbrev pub on_boundary : Bankdef → ℕ → Bool
on_boundary def position = eqb (position % def.unit) 0

-- "the output position is offset plus position"
abbrev pub out_at : Option ℕ → ℕ → Option ℕ
out_at None position = None
out_at (Some offset) position = Some (offset + position)

abbrev pub output_position : Bankdef → ℕ → Option ℕ
output_position def position = out_at def.offset position
