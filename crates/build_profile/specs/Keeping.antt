-- The six rules by plain facts, and that the tests tell just those.
use Rattle.std.specs.Prelude.{ℕ, ◌%◌, ◌≡◌, ◌⊎◌, get_or, Some}
use Rattle.bankdef.specs.declared.Bankdefs.{Bankdefs}
use Rattle.nodes.specs.Lists.{Lists}
use Rattle.resolver.specs.Once.{bank_record}
use Rattle.build_profile.specs.OneBit.{ExactlyOne}
use Rattle.build_profile.specs.RuleLaws.{Every}
use Rattle.build_profile.specs.Rules.{number_in}
use Rattle.build_profile.specs.Standing.{bank_of_node}

-- "every nonzero alignment must have exactly one bit set"
abbrev pub Aligned : ℕ → Type 0
Aligned a = (a ≡ 0 → ⊥) → ExactlyOne a

-- the label alignment of bank k, if it has one
abbrev pub LabelAligned : Bankdefs → ℕ → Type 0
LabelAligned banks k = (a : ℕ) → (bank_record banks k).align ≡ Some a → Aligned a

-- node i, if it is an `align`, "in every row"
abbrev pub AlignKept : Lists → ℕ → Type 0
AlignKept l i = get_or l.kinds i 0 ≡ 8 → Every (λ r. Aligned (number_in l r i)) l.rows

-- "every bank with an offset must have its offset on a page"
abbrev pub OffsetKept : Bankdefs → ℕ → ℕ → Type 0
OffsetKept banks page k = (offset : ℕ) → (bank_record banks k).offset ≡ Some offset → offset % page ≡ 0

-- "and a size of whole pages", "(none breaks it)"
abbrev pub SizeKept : Bankdefs → ℕ → ℕ → Type 0
SizeKept banks page k =
    (offset : ℕ) → (bank_record banks k).offset ≡ Some offset → (size : ℕ) × ((bank_record banks k).size ≡ Some size) × (size % page ≡ 0)

-- "address units are 8 or 16"
abbrev pub UnitKept : Bankdefs → ℕ → Type 0
UnitKept banks k = ((bank_record banks k).unit ≡ 8) ⊎ ((bank_record banks k).unit ≡ 16)

-- "`addr` goes only to a multiple of its bank's unit, in every row": node i, if it is an `addr`, by the bank in force there
abbrev pub AddrKept : Bankdefs → Lists → ℕ → Type 0
AddrKept banks l i =
    get_or l.kinds i 0 ≡ 9 → Every (λ r. number_in l r i % (bank_record banks (bank_of_node l.kinds l.operands i)).unit ≡ 0) l.rows
