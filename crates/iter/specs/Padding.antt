-- Padding figures (document 02, Ticket 2): what a step counts as lost, in which bank, and that the sums are exact.
use Rattle.std.specs.Prelude.{ℕ, ◌^◌, ◌<◌, get_or}
use Rattle.iter.specs.Step.{no_lost}
use Rattle.iter.specs.declared.Lost.{Lost}
use Rattle.iter.specs.declared.Skipped.{Skipped}
use Rattle.iter.specs.declared.Walk.{Walk}

-- "bits lost to `align` and to label alignment", and "the count of whole address units": what holds of the one holds of the other
pub data Part : Type 0 where
  the-bits : Part
  the-units : Part

abbrev pub lost_part : Part → Lost → ℕ
lost_part the-bits l = l.bits
lost_part the-units l = l.units

abbrev pub skipped_part : Part → Skipped → ℕ
skipped_part the-bits s = s.bits
skipped_part the-units s = s.units

-- the bits that a bank has lost, or the whole units
abbrev pub lost_in : Part → Walk → ℕ → ℕ
lost_in part walk bank = lost_part part (get_or walk.lost bank no_lost)

-- every sum is a number of 64 bits (in the code it is so by its type)
abbrev pub Fits : Walk → Type 0
Fits walk = (part : Part) (bank : ℕ) → lost_in part walk bank < 2 ^ 64
