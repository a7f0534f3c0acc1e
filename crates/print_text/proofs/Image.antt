-- The image's line by whether there are hex digits.
use mathlib.Core.Path.{◌≡◌, refl}
use mathlib.Core.List.{List, [], ◌∷◌, ◌++◌}
use Prim.Native.Nat.{ℕ}
use native.Mathlib.Omega.{arith}
use lib.ListN.{length}
use Rattle.print_text.specs.Ascii.{ascii}
use Rattle.print_text.specs.Lines.{image_text}

pub image-none : (hex : List ℕ) → length hex ≡ 0 → image_text hex ≡ ascii "image\n"
unfolding image_text
image-none [] h = refl
image-none (d ∷ hex) h = absurd (omega arith)

pub image-some : (hex : List ℕ) → (length hex ≡ 0 → ⊥) → image_text hex ≡ ascii "image " ++ hex ++ ascii "\n"
unfolding image_text
image-some [] h = absurd (h refl)
image-some (d ∷ hex) h = refl
