-- Laws that proofs about Text need.
use Rattle.std.specs.Prelude.{◌≡◌, ℕ, List, [], ◌∷◌, ◌++◌, refl}
use Rattle.std.proofs.Common.{ap, ◌∙◌, append_assoc}
use Rattle.record_lines.specs.Pieces.{Piece}
use Rattle.record_write.specs.Text.{after_by, lines_from, state_from, text_by}

pub lines-append : (format state : ℕ) (a b : List Piece)
    → lines_from format state (a ++ b) ≡ lines_from format state a ++ lines_from format (state_from format state a) b
unfolding lines_from state_from
lines-append format state [] b = refl
lines-append format state (p ∷ a) b =
    ap (λ (l : List ℕ). text_by format state p ++ l) (lines-append format (after_by format state p) a b)
    ∙ rw append_assoc
