-- What the rule of two banks means: of banks that have bits, two overlap exactly when some bit of the output belongs to both.
use Rattle.std.specs.Prelude.{ℕ, ◌+◌, ◌≤◌, ◌<◌, Option, None, Some}
use Rattle.bankdef.specs.declared.Bankdef.{Bankdef}

-- The bits of a range: from its offset on, and, where it has a size, before its end.
abbrev pub InRange : ℕ → Option ℕ → ℕ → Type 0
InRange o None bit = o ≤ bit
InRange o (Some m) bit = (o ≤ bit) × (bit < o + m)

-- A bank's bits in the output: none without an offset.
abbrev pub InPlace : Option ℕ → Option ℕ → ℕ → Type 0
InPlace None m bit = ⊥
InPlace (Some o) m bit = InRange o m bit

abbrev pub InBank : Bankdef → ℕ → Type 0
InBank b bit = InPlace b.offset b.size bit

-- some bit belongs to both
abbrev pub InBoth : (ℕ → Type 0) → (ℕ → Type 0) → Type 0
InBoth A B = (bit : ℕ) × A bit × B bit
