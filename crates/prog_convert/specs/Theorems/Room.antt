-- Theorems about what Room defines.
use Rattle.std.specs.Prelude.{refl, Bool, List, ℕ, ◌≤◌, length, Result}
use Rattle.std.proofs.Common.{sym, subst}
use Rattle.prelude.specs.declared.Refusal.{Refusal}
use Rattle.form_fields.specs.Contents.{Contents}
use Rattle.form_fields.specs.Kind.{Known}
use Rattle.form_fields.specs.Shape.{form_in}
use Rattle.form_fields.specs.declared.Kind.{Kind}
use Rattle.form_convert.specs.Convert.{Converts}
use Rattle.prog_convert.specs.Laws.Room.{by_form}
use Rattle.prog_convert.specs.Room.{Held, longest_file}

-- Either way: what `convert` answers is held by a buffer with room for the longest file.
pub conversion-held : {from to : Kind} {turn : Contents → Contents} {drops : Contents → Bool} {file old : List ℕ} {answer : Result ℕ Refusal} {new : List ℕ}
    → Known to → longest_file ≤ length old → Converts from to turn drops file old answer new → Held (length old) answer
conversion-held {from} {to} {turn} {drops} {file} {old} known enough p =
    subst (Held (length old)) (sym p.is) (by_form from known turn drops file (length old) enough (form_in from file) refl)
