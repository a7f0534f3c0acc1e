-- The state of a label in a pass: "a label is resolved when its position is known and on a boundary, stable when its address equals that of the
-- pass before (never in pass 1), unresolved otherwise". It is held against the pass before, in the same bank.
use Rattle.std.specs.Prelude.{◌%◌, ◌≡◌, true, Result, Ok}
use Rattle.prelude.specs.declared.Refusal.{Refusal}
use Rattle.bankdef.specs.declared.Bankdef.{Bankdef}
use Rattle.iter.specs.Address.{units_from}
use Rattle.iter.specs.declared.Pos.{Pos}

-- "known and on a boundary"
abbrev pub KnownOnBoundary : Bankdef → Pos → Type 0
KnownOnBoundary def now = (now.known ≡ true) × (now.position % def.unit ≡ 0)

-- "its address equals that of the pass before": the position that the label saw there, in the record of its bank
abbrev pub SameAddress : Bankdef → Pos → Result Pos Refusal → Type 0
SameAddress def now before = (was : Pos) × (before ≡ Ok was) × (units_from def now.position ≡ units_from def was.position)
