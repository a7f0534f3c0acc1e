-- Ticket 8: what full fill's length is, and how it stands to the inherited one. "full fill, where the fill's length is the largest
-- offset + size among banks with fill, size and offset, or 0."
use Rattle.std.specs.Prelude.{◌≡◌, List, ℕ, ◌+◌, ◌<◌, length, get_or}
use Rattle.bankdef.specs.declared.Bankdef.{Bankdef}
use Rattle.bankdef.specs.Check.{no_bank}
use Rattle.bankdef.specs.FillFacts.{Fills}

-- a length that is the end of such a bank
abbrev pub FullEnd : List Bankdef → ℕ → Type 0
FullEnd l m = (k : ℕ) × (h : ℕ) × (k < length l) × (s : Fills (get_or l k no_bank) h) × (m ≡ s.from + s.bits)
