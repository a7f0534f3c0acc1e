-- Theorems about what Lengths defines.
use Rattle.std.specs.Prelude.{List, [], ◌∷◌, ◌++◌, ℕ, zero, suc, ◌+◌, ◌*◌, ◌≤◌, length}
use Rattle.std.proofs.Common.{arith, length-append}
use Rattle.prelude.specs.Refusals.{number_of, place_of}
use Rattle.prelude.specs.declared.Refusal.{Refusal}
use Rattle.print_text.specs.Ascii.{ascii}
use Rattle.print_text.specs.Lines.{line, block_word, passes_text, place_numbers, refusal_text, blocks_text, image_text, layout_text}
use Rattle.print_text.specs.Laws.Lengths.{image-few, line-length, number-few, spaced-few, spaced-words, two-places}
use Rattle.print_text.specs.Lengths.{AllFew, Few, AllWords}

-- A line of a word and numbers.
pub line-few : (word ns : List ℕ) → AllFew ns → length (line word ns) ≤ length word + 12 * length ns + 1
line-few word ns h = omega (arith, line-length word ns, spaced-few ns h)

-- A refusal's line: `refused`, its number, and one or two numbers more.
pub refusal-few : (r : Refusal) → AllFew (place_numbers (place_of r)) → length (refusal_text r) ≤ 44
refusal-few r h =
    omega (arith, line-few (ascii "refused") (number_of r ∷ place_numbers (place_of r)) (omega (arith, number-few r), h), two-places (place_of r))

-- The same for every place that 64 bits hold.
pub refusal-within : (why : Refusal) → AllWords (place_numbers (place_of why)) → length (refusal_text why) ≤ 71
refusal-within why h =
    let ns = number_of why ∷ place_numbers (place_of why) in
    omega (
      arith,
      line-length (ascii "refused") ns,
      spaced-words ns (omega (arith, number-few why), h),
      two-places (place_of why),
    )

-- The lines of blocks: 30 bytes for each.
pub blocks-few : (n : ℕ) (offsets sizes : List ℕ) → AllFew offsets → AllFew sizes → length (blocks_text n offsets sizes) ≤ 30 * n
unfolding blocks_text
blocks-few zero offsets sizes ho hs = omega arith
blocks-few (suc n) [] sizes ho hs = omega arith
blocks-few (suc n) (o ∷ offsets) [] ho hs = omega arith
blocks-few (suc n) (o ∷ offsets) (s ∷ sizes) ho hs =
    omega (
      arith,
      length-append (line block_word (o ∷ s ∷ [])) (blocks_text n offsets sizes),
      line-few block_word (o ∷ s ∷ []) (ho.0, (hs.0, tt)),
      blocks-few n offsets sizes ho.1 hs.1,
    )

-- All that is printed of a layout with n blocks.
pub layout-few : (k n : ℕ) (offsets sizes hex : List ℕ) → Few k → AllFew offsets → AllFew sizes
    → length (layout_text k n offsets sizes hex) ≤ 26 + 30 * n + length hex
layout-few k n offsets sizes hex hk ho hs =
    omega (
      arith,
      length-append (passes_text k ++ blocks_text n offsets sizes) (image_text hex),
      length-append (passes_text k) (blocks_text n offsets sizes),
      line-few (ascii "passes") (k ∷ []) (hk, tt),
      blocks-few n offsets sizes ho hs,
      image-few hex,
    )
