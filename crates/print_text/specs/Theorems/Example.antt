-- Document 01's worked example, as it is printed, and lines of the settled readings.
use Rattle.std.specs.Prelude.{◌≡◌, refl, [], ◌∷◌}
use Rattle.prelude.specs.declared.Refusal.TheVariants.{Malformed, Overlap}
use Rattle.print_text.specs.Ascii.{ascii}
use Rattle.print_text.specs.Decimal.{decimal}
use Rattle.print_text.specs.Lines.{spaced, refusal_text, blocks_text, image_text, layout_text}

-- "Output: passes 1, block 0 10, block 20 10, image ffc002a800"
pub worked-example : layout_text 1 2 (0 ∷ 20 ∷ []) (10 ∷ 10 ∷ []) (ascii "ffc002a800") ≡ ascii "passes 1\nblock 0 10\nblock 20 10\nimage ffc002a800\n"
unfolding spaced decimal blocks_text image_text
worked-example = refl

-- "An empty image prints `image` alone."
pub empty-image : layout_text 0 0 [] [] [] ≡ ascii "passes 0\nimage\n"
unfolding spaced decimal blocks_text image_text
empty-image = refl

-- "A refusal prints `refused`, number and place, one space between."
pub one_place : refusal_text (Malformed 4096) ≡ ascii "refused 4 4096\n"
unfolding spaced decimal
one_place = refl

-- Places of two numbers print both.
pub two-places : refusal_text (Overlap 8589934590 8) ≡ ascii "refused 12 8589934590 8\n"
unfolding spaced decimal
two-places = refl
