-- Theorems about what Told defines.
use Rattle.std.specs.Prelude.{ℕ, ◌<◌, ◌≡◌}
use Rattle.std.proofs.Common.{sym, ◌∙◌, ap, arith}
use Rattle.prelude.specs.Refusals.{number_of, place_of}
use Rattle.prelude.specs.declared.Refusal.{Refusal}
use Rattle.prelude.specs.declared.Refusal.TheVariants.{BankCount, BankNumber, BanksOverlap, Malformed, PositionPast, LabelOffBoundary, Unresolved}
use Rattle.prelude.specs.declared.Refusal.TheVariants.{DefaultBank, PastBank, NoOutput, Overlap, StoreFull, TooShort, BadStore, BadPart, PartlyCovered}
use Rattle.prelude.specs.declared.Refusal.TheVariants.{FillBitDropped, OffProfile}
use Rattle.prelude.specs.Laws.Told.{refusal-back, refusal_of}

-- Every refusal has a number other than 0, the number of none.
pub number-some : (why : Refusal) → 0 < number_of why
number-some BankCount = omega arith
number-some (BankNumber b) = omega arith
number-some (BanksOverlap a b) = omega arith
number-some (Malformed p) = omega arith
number-some (PositionPast p) = omega arith
number-some (LabelOffBoundary p) = omega arith
number-some Unresolved = omega arith
number-some (DefaultBank p) = omega arith
number-some (PastBank p) = omega arith
number-some (NoOutput p) = omega arith
number-some (Overlap a b) = omega arith
number-some (StoreFull p) = omega arith
number-some (TooShort p) = omega arith
number-some (BadStore p) = omega arith
number-some BadPart = omega arith
number-some PartlyCovered = omega arith
number-some FillBitDropped = omega arith
number-some (OffProfile a b) = omega arith

-- Number and place tell a refusal: two that have both in common are one.
pub refusal-by-figures : (r s : Refusal) → number_of r ≡ number_of s → place_of r ≡ place_of s → r ≡ s
refusal-by-figures r s n p = sym (refusal-back r) ∙ ap (λ (m : ℕ). refusal_of m (place_of r)) n ∙ ap (refusal_of (number_of s)) p ∙ refusal-back s

-- 6 is no longer given.
pub six-never : (r : Refusal) → number_of r ≡ 6 → ⊥
six-never BankCount e = omega arith
six-never (BankNumber b) e = omega arith
six-never (BanksOverlap a b) e = omega arith
six-never (Malformed p) e = omega arith
six-never (PositionPast p) e = omega arith
six-never (LabelOffBoundary p) e = omega arith
six-never Unresolved e = omega arith
six-never (DefaultBank p) e = omega arith
six-never (PastBank p) e = omega arith
six-never (NoOutput p) e = omega arith
six-never (Overlap a b) e = omega arith
six-never (StoreFull p) e = omega arith
six-never (TooShort p) e = omega arith
six-never (BadStore p) e = omega arith
six-never BadPart e = omega arith
six-never PartlyCovered e = omega arith
six-never FillBitDropped e = omega arith
six-never (OffProfile a b) e = omega arith
