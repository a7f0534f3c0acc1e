-- Laws that Theorems/Lengths rests on.
use Rattle.std.specs.Prelude.{◌≡◌, List, [], ◌∷◌, ◌++◌, ℕ, ◌+◌, ◌*◌, ◌≤◌, ◌<◌, length}
use Rattle.std.proofs.Common.{ap, ◌∙◌, arith}
use Rattle.std.proofs.lemmas.List.{length-append}
use Rattle.prelude.specs.Refusals.{number_of}
use Rattle.prelude.specs.declared.Place.{Place}
use Rattle.prelude.specs.declared.Place.TheVariants.{One, Two}
use Rattle.prelude.specs.declared.Refusal.{Refusal}
use Rattle.prelude.specs.declared.Refusal.TheVariants.{BankCount, BankNumber, BanksOverlap, Malformed, PositionPast, LabelOffBoundary, Unresolved}
use Rattle.prelude.specs.declared.Refusal.TheVariants.{DefaultBank, PastBank, NoOutput, Overlap, StoreFull, TooShort, BadStore, BadPart}
use Rattle.prelude.specs.declared.Refusal.TheVariants.{PartlyCovered, FillBitDropped, OffProfile}
use Rattle.print_text.specs.Ascii.{ascii}
use Rattle.print_text.specs.Decimal.{decimal}
use Rattle.print_text.specs.Theorems.Decimal.{decimal-length}
use Rattle.print_text.specs.Lines.{spaced, line, place_numbers, image_text}
use Rattle.print_text.specs.Lengths.{AllFew, AllWords}

-- how long a line is
pub line-length : (word numbers : List ℕ) → length (line word numbers) ≡ length word + length (spaced numbers) + 1
line-length word numbers = length-append (word ++ spaced numbers) (10 ∷ []) ∙ ap (λ (k : ℕ). k + 1) (length-append word (spaced numbers))

pub spaced-few : (ns : List ℕ) → AllFew ns → length (spaced ns) ≤ 12 * length ns
unfolding spaced
spaced-few [] h = omega arith
spaced-few (n ∷ ns) h =
    omega (arith, length-append (decimal n) (spaced ns), decimal-length 10 n (omega (arith, h.0)), spaced-few ns h.1)

pub spaced-words : (ns : List ℕ) → AllWords ns → length (spaced ns) ≤ 21 * length ns
unfolding spaced
spaced-words [] h = omega arith
spaced-words (n ∷ ns) h =
    omega (arith, length-append (decimal n) (spaced ns), decimal-length 19 n (omega (arith, h.0)), spaced-words ns h.1)

pub number-few : (r : Refusal) → number_of r < 20
number-few BankCount = omega arith
number-few (BankNumber b) = omega arith
number-few (BanksOverlap a b) = omega arith
number-few (Malformed p) = omega arith
number-few (PositionPast p) = omega arith
number-few (LabelOffBoundary p) = omega arith
number-few Unresolved = omega arith
number-few (DefaultBank p) = omega arith
number-few (PastBank p) = omega arith
number-few (NoOutput p) = omega arith
number-few (Overlap a b) = omega arith
number-few (StoreFull p) = omega arith
number-few (TooShort p) = omega arith
number-few (BadStore p) = omega arith
number-few BadPart = omega arith
number-few PartlyCovered = omega arith
number-few FillBitDropped = omega arith
number-few (OffProfile a b) = omega arith

pub two-places : (p : Place) → length (place_numbers p) ≤ 2
two-places (One p) = omega arith
two-places (Two p q) = omega arith

pub image-few : (hex : List ℕ) → length (image_text hex) ≤ 7 + length hex
unfolding image_text
image-few [] = omega arith
image-few (d ∷ hex) = omega (arith, length-append (ascii "image " ++ (d ∷ hex)) (ascii "\n"), length-append (ascii "image ") (d ∷ hex))
