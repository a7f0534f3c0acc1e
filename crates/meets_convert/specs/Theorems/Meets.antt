-- Every outcome of `dk_to_form2` and of `dk_to_form1`, from its contract, is one that the sentences say.
use Rattle.std.specs.Prelude.{◌≡◌, refl, List, ℕ, length, Result, Err, Ok}
use Rattle.std.proofs.Common.{sym, ap, ap₂, subst, ◌∙◌}
use Rattle.form_fields.specs.declared.Shape.{Shape}
use Rattle.prelude.specs.declared.Refusal.TheVariants.{Malformed}
use Rattle.prelude.specs.declared.Refusal.{Refusal}
use Rattle.form_fields.specs.Contents.{Contents, written}
use Rattle.form_fields.specs.Kind.{form1, form2}
use Rattle.form_fields.specs.Shape.{form_in}
use Rattle.form_fields.specs.Whole.{Bytes, contents_in}
use Rattle.form_fields.proofs.WholeLaws.{contents-fit}
use Rattle.form_convert.specs.Convert.{answer_for, answer_by, out_after, drops_none}
use Rattle.form_rewrite.specs.Turning.{to_form2, to_form1, drops_bit}
use Rattle.c_answers.specs.Counts.{conversion_count}
use Rattle.c_answers.specs.declared.DkCount.{DkCount}
use Rattle.c_model.specs.Conversions.{WayTold}
use Rattle.says.specs.Files.{Form, form-1, form-2}
use Rattle.meets_form.specs.Laws.Breaks.{form-broken}
use Rattle.meets_form.specs.Laws.Written.{kind, known, held, form-sound}
use Rattle.says.specs.Convert as says
use Rattle.says.specs.Convert.{Outcome, refusal, ConvertSays}
use Rattle.meets_convert.specs.Laws.Answers.{drops_of, outcome_of, answer-meets}
use Rattle.meets_convert.specs.Laws.Turns.{turn, other, becomes-so}

module _ (f : Form) (file old : List ℕ) (small : Bytes file) (r : DkCount) (new : List ℕ)
    (told : WayTold (kind f) (kind (other f)) (turn f) (drops_of f) file old r new) where
  abbrev c : Contents
  c = contents_in (kind f) file

  abbrev tell : Result ℕ Refusal → Outcome
  tell a = record { answer = conversion_count a; out = out_after a (written (kind (other f)) (turn f c)) old }

  abbrev answer_on : Result Shape Refusal → Result ℕ Refusal
  answer_on g = answer_by (kind (other f)) g c (turn f c) (drops_of f c) (length old)

  told-so : record { answer = r; out = new } ≡ tell (answer_on (form_in (kind f) file))
  told-so = ap₂ (λ (a : DkCount) (o : List ℕ). record { answer = a; out = o }) told.answer told.out

  by_form : (g : Result Shape Refusal) → form_in (kind f) file ≡ g → ConvertSays f file old (tell (answer_on (form_in (kind f) file)))
  by_form (Err why) e =
      let b = form-broken f file why e in
      subst (ConvertSays f file old) (sym (ap (λ (g : Result Shape Refusal). tell (answer_on g)) (e ∙ ap Err b.refusal)))
      (says.broken b.says)
  by_form (Ok s) e =
      let fits = contents-fit file small (known f) s e in
      subst (ConvertSays f file old) (sym (ap (λ (g : Result Shape Refusal). tell (answer_on g)) e))
      (says.sound (form-sound f file small s e) (becomes-so f c fits) (answer-meets f file old c (turn f c) fits))

  pub convert-meets : ConvertSays f file old (record { answer = r; out = new })
  convert-meets = subst (ConvertSays f file old) (sym told-so) (by_form (form_in (kind f) file) refl)

pub to-form2-meets : (file old : List ℕ) → Bytes file → (r : DkCount) (new : List ℕ) → WayTold form1 form2 to_form2 drops_none file old r new
    → ConvertSays form-1 file old (record { answer = r; out = new })
to-form2-meets file old small r new told = convert-meets form-1 file old small r new told

pub to-form1-meets : (file old : List ℕ) → Bytes file → (r : DkCount) (new : List ℕ) → WayTold form2 form1 to_form1 drops_bit file old r new
    → ConvertSays form-2 file old (record { answer = r; out = new })
to-form1-meets file old small r new told = convert-meets form-2 file old small r new told
