-- Laws that Theorems/Told rests on.
use Rattle.std.specs.Prelude.{ℕ, [], ◌∷◌, get_or, ◌≡◌, refl}
use Rattle.prelude.specs.Refusals.{number_of, place_of}
use Rattle.prelude.specs.declared.Refusal.{Refusal}
use Rattle.prelude.specs.declared.Refusal.TheVariants.{BankCount, BankNumber, BanksOverlap, Malformed, PositionPast, LabelOffBoundary, Unresolved}
use Rattle.prelude.specs.declared.Refusal.TheVariants.{DefaultBank, PastBank, NoOutput, Overlap, StoreFull, TooShort, BadStore, BadPart, PartlyCovered}
use Rattle.prelude.specs.declared.Refusal.TheVariants.{FillBitDropped, OffProfile}
use Rattle.prelude.specs.declared.Place.{Place}
use Rattle.prelude.specs.declared.Place.TheVariants.{One, Two}

-- the refusal of a number and a place; 0 and 6 are no refusal's, and `BankCount` stands in for them
abbrev pub first_of : Place → ℕ
first_of (One p) = p
first_of (Two p q) = p

abbrev pub second_of : Place → ℕ
second_of (One p) = 0
second_of (Two p q) = q

abbrev pub refusal_of : ℕ → Place → Refusal
refusal_of n p =
    get_or
    (BankCount ∷
    BankCount ∷
    BankNumber (first_of p) ∷
    BanksOverlap (first_of p) (second_of p) ∷
    Malformed (first_of p) ∷
    PositionPast (first_of p) ∷
    BankCount ∷
    LabelOffBoundary (first_of p) ∷
    Unresolved ∷
    DefaultBank (first_of p) ∷
    PastBank (first_of p) ∷
    NoOutput (first_of p) ∷
    Overlap (first_of p) (second_of p) ∷
    StoreFull (first_of p) ∷
    TooShort (first_of p) ∷
    BadStore (first_of p) ∷
    BadPart ∷
    PartlyCovered ∷
    FillBitDropped ∷
    OffProfile (first_of p) (second_of p) ∷
    []) n BankCount

pub refusal-back : (r : Refusal) → refusal_of (number_of r) (place_of r) ≡ r
refusal-back BankCount = refl
refusal-back (BankNumber b) = refl
refusal-back (BanksOverlap a b) = refl
refusal-back (Malformed p) = refl
refusal-back (PositionPast p) = refl
refusal-back (LabelOffBoundary p) = refl
refusal-back Unresolved = refl
refusal-back (DefaultBank p) = refl
refusal-back (PastBank p) = refl
refusal-back (NoOutput p) = refl
refusal-back (Overlap a b) = refl
refusal-back (StoreFull p) = refl
refusal-back (TooShort p) = refl
refusal-back (BadStore p) = refl
refusal-back BadPart = refl
refusal-back PartlyCovered = refl
refusal-back FillBitDropped = refl
refusal-back (OffProfile a b) = refl
