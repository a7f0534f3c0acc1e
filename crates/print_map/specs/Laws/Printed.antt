-- Laws that Theorems/Printed rests on.
use Rattle.std.specs.Prelude.{◌≡◌, List, [], ◌∷◌, ◌++◌, ℕ}
use Rattle.std.proofs.Common.{sym, ap, ◌∙◌, append-nil, append_assoc}
use Rattle.print_text.specs.Ascii.{ascii}
use Rattle.print_text.specs.Decimal.{decimal}
use Rattle.print_text.specs.Lines.{spaced}
use Rattle.print_map.specs.Cells.{number, cells_from}

pub spaced-two : (n p : ℕ) → spaced (n ∷ p ∷ []) ≡ cells_from [] (number n ∷ number p ∷ [])
unfolding spaced cells_from
spaced-two n p = ap (λ (l : List ℕ). (ascii " " ++ decimal n) ++ l) (append-nil (ascii " " ++ decimal p))

pub spaced-three : (n p q : ℕ) → spaced (n ∷ p ∷ q ∷ []) ≡ cells_from [] (number n ∷ number p ∷ number q ∷ [])
unfolding spaced cells_from
spaced-three n p q =
    ap (λ (l : List ℕ). (ascii " " ++ decimal n) ++ ((ascii " " ++ decimal p) ++ l)) (append-nil (ascii " " ++ decimal q))
    ∙ sym (append_assoc (ascii " " ++ decimal n) (ascii " " ++ decimal p) (ascii " " ++ decimal q))
