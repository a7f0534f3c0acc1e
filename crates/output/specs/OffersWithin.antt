-- What the nodes of a build offer stays within an offer's limits: an item that ends past the last position is refused in the walk, and a bank's offset has
-- 32 bits.
use Rattle.std.specs.Prelude.{ℕ, ◌≤◌, ◌≡◌, Some}
use Rattle.prelude.specs.Limits.{max_position}
use Rattle.bankdef.specs.declared.Bankdefs.{Bankdefs}
use Rattle.resolver.specs.Once.{bank_record}

-- Every bank's offset has 32 bits: so has the field of the bank record.
abbrev pub OffsetsFit : Bankdefs → Type 0
OffsetsFit banks = (bank offset : ℕ) → (bank_record banks bank).offset ≡ Some offset → offset ≤ max_position
