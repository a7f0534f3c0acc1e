-- The lines that the program prints, from document 01's "Cases": "The first line is K. An empty image prints `image` alone. A
-- refusal prints `refused`, number and place, one space between." Places of two numbers print both; every line ends in LF.
use Rattle.std.specs.Prelude.{List, [], ◌∷◌, ◌++◌, ℕ, zero, suc}
use Rattle.prelude.specs.Refusals.{number_of, place_of}
use Rattle.prelude.specs.declared.Refusal.{Refusal}
use Rattle.prelude.specs.declared.Place.{Place}
use Rattle.prelude.specs.declared.Place.TheVariants.{One, Two}
use Rattle.print_text.specs.Ascii.{ascii}
use Rattle.print_text.specs.Decimal.{decimal}

-- Numbers, a space before each.
unfoldable pub spaced : List ℕ → List ℕ
spaced [] = []
spaced (n ∷ ns) = ascii " " ++ decimal n ++ spaced ns

-- A line: a word, numbers after it, and LF.
abbrev pub line : List ℕ → List ℕ → List ℕ
line word numbers = word ++ spaced numbers ++ ascii "\n"

abbrev pub block_word : List ℕ
block_word = ascii "block"

-- "passes 1": "The first line is K."
abbrev pub passes_text : ℕ → List ℕ
passes_text k = line (ascii "passes") (k ∷ [])

-- The one or two numbers of a place.
abbrev pub place_numbers : Place → List ℕ
place_numbers (One p) = p ∷ []
place_numbers (Two p q) = p ∷ q ∷ []

-- "A refusal prints `refused`, number and place, one space between."
abbrev pub refusal_text : Refusal → List ℕ
refusal_text r = line (ascii "refused") (number_of r ∷ place_numbers (place_of r))

-- "block 0 10": a line for each block, its offset and its size; of the blocks lent, the first `count`.
unfoldable pub blocks_text : ℕ → List ℕ → List ℕ → List ℕ
blocks_text zero offsets sizes = []
blocks_text (suc count) [] sizes = []
blocks_text (suc count) (o ∷ offsets) [] = []
blocks_text (suc count) (o ∷ offsets) (s ∷ sizes) = line block_word (o ∷ s ∷ []) ++ blocks_text count offsets sizes

-- "image ffc002a800"; "An empty image prints `image` alone." An image with bits has hex digits.
unfoldable pub image_text : List ℕ → List ℕ
image_text [] = ascii "image\n"
image_text (d ∷ hex) = ascii "image " ++ (d ∷ hex) ++ ascii "\n"

-- All that is printed of a layout that is not refused.
abbrev pub layout_text : ℕ → ℕ → List ℕ → List ℕ → List ℕ → List ℕ
layout_text k count offsets sizes hex = passes_text k ++ blocks_text count offsets sizes ++ image_text hex
