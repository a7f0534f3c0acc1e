-- How long the text of a layout is, by its parts.
use mathlib.Core.Path.{◌≡◌, ◌∙◌}
use mathlib.Core.List.{List, [], ◌∷◌, ◌++◌}
use Prim.Native.Nat.{ℕ, ◌+◌}
use native.Mathlib.Omega.{arith}
use lib.ListN.{length, length-append}
use Rattle.print_text.specs.Ascii.{ascii}
use Rattle.print_text.specs.Lines.{spaced, passes_text, blocks_text, image_text, layout_text}
use Rattle.print_text.specs.Laws.Lengths.{line-length}

pub layout-length : (k n : ℕ) (os ss hex : List ℕ)
    → length (layout_text k n os ss hex) ≡ 6 + length (spaced (k ∷ [])) + 1 + length (blocks_text n os ss) + length (image_text hex)
layout-length k n os ss hex =
    length-append (passes_text k ++ blocks_text n os ss) (image_text hex)
    ∙ omega (arith, length-append (passes_text k) (blocks_text n os ss), line-length (ascii "passes") (k ∷ []))
