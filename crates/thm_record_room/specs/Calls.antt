-- Calls that write records into a buffer in which every file of theirs fits: 14 is not given.
use Rattle.std.specs.Prelude.{◌≡◌, Result, ℕ}
use Rattle.prelude.specs.Told.{told_number}
use Rattle.prelude.specs.declared.Refusal.{Refusal}
use Rattle.record_write.specs.Outcome.{told_written}

-- "14": the lent text is too short. It is not answered.
abbrev pub NotShort : Result ℕ Refusal → Type 0
NotShort r = told_number (told_written r) ≡ 14 → ⊥
