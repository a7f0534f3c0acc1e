-- Theorems about what Told defines.
use Rattle.std.specs.Prelude.{ℕ, Bool, List, length, Result}
use Rattle.std.proofs.Common.{sym, subst}
use Rattle.prelude.specs.declared.Refusal.{Refusal}
use Rattle.form_fields.specs.declared.Kind.{Kind}
use Rattle.form_fields.specs.Contents.{Contents}
use Rattle.form_fields.specs.Kind.{form1, form2}
use Rattle.form_fields.specs.Shape.{form_in}
use Rattle.form_fields.specs.Whole.{contents_in}
use Rattle.form_convert.specs.Convert.{Converts, drops_none, ToForm2, ToForm1}
use Rattle.form_rewrite.specs.Turning.{to_form2, to_form1, drops_bit}
use Rattle.form_convert.specs.Laws.Told.{answer-told}
use Rattle.form_convert.specs.Told.{ConvertTold, TellsForm1, TellsForm2, told_conversion}

-- What the contract of a call tells, of every answer that meets it.
pub converts-told : (from to : Kind) (turn : Contents → Contents) (drops : Contents → Bool) {file old new : List ℕ} {answer : Result ℕ Refusal}
    → Converts from to turn drops file old answer new
    → ConvertTold to (form_in from file) (contents_in from file)
    (turn (contents_in from file)) (drops (contents_in from file)) (length old) (told_conversion answer)
converts-told from to turn drops {file} {old} {new} {answer} p =
    let c = contents_in from file in
    subst (λ (r : Result ℕ Refusal). ConvertTold to (form_in from file) c (turn c) (drops c) (length old) (told_conversion r)) (sym p.is)
    (answer-told to (form_in from file) c (turn c) (drops c) (length old))

pub tells-form2 : {file old new : List ℕ} {answer : Result ℕ Refusal} → ToForm2 file old answer new → ToForm2 file old answer new × TellsForm2 file old answer
tells-form2 p = (p, converts-told form1 form2 to_form2 drops_none p)

pub tells-form1 : {file old new : List ℕ} {answer : Result ℕ Refusal} → ToForm1 file old answer new → ToForm1 file old answer new × TellsForm1 file old answer
tells-form1 p = (p, converts-told form2 form1 to_form1 drops_bit p)
