-- Theorems about what Text defines.
use Rattle.std.specs.Prelude.{List, [], ◌∷◌, ℕ, ◌+◌, ◌*◌, ◌≤◌, ◌<◌, length}
use Rattle.std.proofs.Common.{arith, length-append}
use Rattle.prelude.specs.Refusals.{number_of, place_of}
use Rattle.prelude.specs.declared.Refusal.{Refusal}
use Rattle.print_text.specs.Ascii.{ascii}
use Rattle.print_text.specs.Decimal.{decimal}
use Rattle.print_text.specs.Lines.{line, spaced, place_numbers, refusal_text}
use Rattle.print_text.specs.Laws.Lengths.{line-length, number-few, two-places}
use Rattle.print_text.specs.Theorems.Decimal.{decimal-length}

-- A number of 64 bits has at most twenty digits,
abbrev pub Word : ℕ → Type 0
Word n = n < 18446744073709551616

abbrev pub AllWords : List ℕ → Type 0
AllWords [] = Unit {0}
AllWords (n ∷ ns) = Word n × AllWords ns

pub spaced-words : (ns : List ℕ) → AllWords ns → length (spaced ns) ≤ 21 * length ns
unfolding spaced
spaced-words [] h = omega arith
spaced-words (n ∷ ns) h =
    omega (arith, length-append (decimal n) (spaced ns), decimal-length 19 n (omega (arith, h.0)), spaced-words ns h.1)

-- so that a line of a word and a few numbers is short,
pub line-words : (word ns : List ℕ) → AllWords ns → length (line word ns) ≤ length word + 21 * length ns + 1
line-words word ns h = omega (arith, line-length word ns, spaced-words ns h)

-- and a refusal's line fits the room for it, whatever its place.
pub refusal-fits : (why : Refusal) → AllWords (place_numbers (place_of why)) → length (refusal_text why) ≤ 71
refusal-fits why h =
    omega (
      arith,
      line-words (ascii "refused") (number_of why ∷ place_numbers (place_of why)) (omega (arith, number-few why), h),
      two-places (place_of why),
    )
