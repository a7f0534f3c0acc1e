-- Theorems about what Lines defines.
use Rattle.std.specs.Prelude.{◌≡◌, ℕ, List, [], ◌∷◌, refl}
use Rattle.prelude.specs.Laws.Pick.{pick_true}
use Rattle.record_lines.specs.Laws.Lines.{alone, before_more}
use Rattle.record_lines.specs.Lines.{behind, first_line, is_cr, is_lf, lines_of, taken}

pub lines-first : (c : ℕ) (t : List ℕ) → lines_of (c ∷ t) ≡ first_line (c ∷ t) ∷ lines_of (behind (c ∷ t))
unfolding lines_of first_line taken
lines-first c [] = alone c (is_lf c) (is_cr c)
lines-first c (d ∷ t) = before_more c d t (lines_of (d ∷ t)) (is_lf c) (is_cr c) refl (λ e. pick_true _ _ e) (lines-first d t)
