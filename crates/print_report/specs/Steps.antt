-- What is known of a table that a file says: each bank's offset is within its limits.
use Rattle.std.specs.Prelude.{ℕ, ◌≤◌, get_or, Option, None, Some}
use Rattle.prelude.specs.Limits.{max_position}
use Rattle.bankdef.specs.Check.{no_bank}
use Rattle.bankdef.specs.declared.Bankdefs.{Bankdefs}

-- "offset .. 0 to 4,294,967,295": of each bank in a table
abbrev pub OffsetFits : Option ℕ → Type 0
OffsetFits None = Unit {0}
OffsetFits (Some o) = o ≤ max_position

abbrev pub OffsetsFit : Bankdefs → Type 0
OffsetsFit t = (k : ℕ) → OffsetFits (get_or t.defs k no_bank).offset
