-- Laws that Theorems/Back rests on.
use Rattle.std.specs.Prelude.{◌≡◌, List, ℕ}
use Rattle.std.proofs.Common.{sym, ◌∙◌}
use Rattle.record_lines.specs.Items.{Format}
use Rattle.record_lines.specs.Pieces.{Piece}
use Rattle.record_lines.specs.Telling.{Tells, closes, skips, tells}

-- Formats that read every line alike.
pub tells_alike : (f g : Format) → ((state : ℕ) (line : List ℕ) → f state line ≡ g state line) → {state : ℕ} {lines : List (List ℕ)} {l : List Piece}
    → Tells f state lines l → Tells g state lines l
tells_alike f g same (closes {state} {line} e) = closes (sym (same state line) ∙ e)
tells_alike f g same (skips {state} {after} {line} {lines} {l} e t) = skips (sym (same state line) ∙ e) (tells_alike f g same t)
tells_alike f g same (tells {state} {after} {line} {lines} {p} {l} e t) = tells (sym (same state line) ∙ e) (tells_alike f g same t)
