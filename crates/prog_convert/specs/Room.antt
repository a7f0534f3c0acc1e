-- The program's buffer is never too short: "4 for .. a result past its form's length, .. then 14", so that 14 is not given where the longest file fits.
use Rattle.std.specs.Prelude.{◌≡◌, ℕ, ◌≤◌, Result, Ok, Err}
use Rattle.prelude.specs.Refusals.{number_of}
use Rattle.prelude.specs.declared.Refusal.{Refusal}

-- "Form 2 may have 65,536 bytes"
abbrev pub longest_file : ℕ
longest_file = 65536

-- the number of a refusal, 0 where there is none; how long a converted file is
abbrev number_told : Result ℕ Refusal → ℕ
number_told (Ok n) = 0
number_told (Err why) = number_of why

abbrev length_told : Result ℕ Refusal → ℕ
length_told (Ok n) = n
length_told (Err why) = 0

-- An answer in a buffer of this room: not 14, and a converted file stands within it.
pub record Held (room : ℕ) (answer : Result ℕ Refusal) : Type 0 where
  pub not-14 : number_told answer ≡ 14 → ⊥
  pub within : length_told answer ≤ room
