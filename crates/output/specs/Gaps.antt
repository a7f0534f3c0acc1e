-- Ticket 6, "Erased flash is ones", in an accepted build: "In a bank other than bank 0 with fill, size and offset, every bit of its range inside the image
-- length that belongs to no written item takes the fill bit, reserved bits too." Demand 3 then ends: "every other bit is the fill bit inside
-- such a range and the image length, and zero elsewhere", to the last byte lent.
use Rattle.std.specs.Prelude.{◌≡◌, List, ℕ, ◌<◌, length, get_or}
use Rattle.bankdef.specs.Check.{no_bank}
use Rattle.bankdef.specs.Numbers.{fill_bit}
use Rattle.bankdef.specs.declared.Bankdef.{Bankdef}

-- all fill bits are zero
abbrev pub AllClear : List Bankdef → Type 0
AllClear banks = (k : ℕ) → 0 < k → k < length banks → fill_bit (get_or banks k no_bank) ≡ 0
