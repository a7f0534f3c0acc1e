-- What one walk of a row tells of every pass that reads it. Only whether a label that is not resolved is stable needs the row of the pass before.
use Rattle.std.specs.Prelude.{Bool, false, eqb, Result, ℕ, Ok, Err}
use Rattle.prelude.specs.declared.Refusal.{Refusal}

-- Whether a pass over a row, held against that very row, may come to something else beside the row of the pass before: where it is stable.
abbrev pub in_doubt : Result ℕ Refusal → Bool
in_doubt (Ok s) = eqb s 1
in_doubt (Err why) = false
