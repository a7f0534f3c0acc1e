-- A refusal's line is the one that the program `layout` prints.
use Rattle.std.specs.Prelude.{◌≡◌, List, ◌∷◌, ◌++◌, ℕ}
use Rattle.std.proofs.Common.{ap}
use Rattle.prelude.specs.Refusals.{number_of, place_of}
use Rattle.prelude.specs.declared.Place.{Place}
use Rattle.prelude.specs.declared.Place.TheVariants.{One, Two}
use Rattle.prelude.specs.declared.Refusal.{Refusal}
use Rattle.print_text.specs.Ascii.{ascii}
use Rattle.print_text.specs.Lines.{line, place_numbers, refusal_text}
use Rattle.print_map.specs.Cells.{number, line_of}
use Rattle.print_map.specs.Text.{place_cells, refused_text}
use Rattle.print_map.specs.Laws.Printed.{spaced-three, spaced-two}

pub refused-as-printed : (why : Refusal) → refusal_text why ≡ refused_text why
refused-as-printed why = by (place_of why)
  where
    by : (place : Place)
        → line (ascii "refused") (number_of why ∷ place_numbers place) ≡ line_of (ascii "refused") (number (number_of why) ∷ place_cells place)
    by (One p) = ap (λ (l : List ℕ). ascii "refused" ++ l ++ ascii "\n") (spaced-two (number_of why) p)
    by (Two p q) = ap (λ (l : List ℕ). ascii "refused" ++ l ++ ascii "\n") (spaced-three (number_of why) p q)
