-- Meets and decides together: what a conversion of a file of bytes says is so of one outcome, whatever is lent. So what follows from its contract follows from
-- its sentences.
use Rattle.std.specs.Prelude.{◌≡◌, refl, List, ◌↔◌, ℕ, Result}
use Rattle.std.proofs.Common.{sym, subst}
use Rattle.prelude.specs.declared.Refusal.{Refusal}
use Rattle.form_fields.specs.Contents.{written}
use Rattle.form_fields.specs.Whole.{Bytes, contents_in}
use Rattle.form_convert.specs.Convert.{out_after}
use Rattle.c_answers.specs.Counts.{conversion_count}
use Rattle.c_model.specs.Conversions.{WayTold, answer_in}
use Rattle.says.specs.Files.{Form}
use Rattle.meets_form.specs.Laws.Written.{kind}
use Rattle.says.specs.Convert.{Outcome, ConvertSays}
use Rattle.meets_convert.specs.Laws.Answers.{drops_of}
use Rattle.meets_convert.specs.Laws.Turns.{turn, other}
use Rattle.meets_convert.specs.Theorems.Decides.{convert-decides}
use Rattle.meets_convert.specs.Theorems.Meets.{convert-meets}

module _ (f : Form) (file : List ℕ) (small : Bytes file) (old : List ℕ) where
  abbrev answer : Result ℕ Refusal
  answer = answer_in (kind f) (kind (other f)) (turn f) (drops_of f) file old

  -- the outcome by the definitions
  abbrev pub outcome_of : Outcome
  outcome_of = record { answer = conversion_count answer; out = out_after answer (written (kind (other f)) (turn f (contents_in (kind f) file))) old }

  abbrev pub WayOf : Outcome → Type 0
  WayOf o = WayTold (kind f) (kind (other f)) (turn f) (drops_of f) file old o.answer o.out

  has-outcome : WayOf outcome_of
  has-outcome = record { answer = refl; out = refl }

  -- What the sentences say is so, and nothing else.
  pub convert-exactly : (o : Outcome) → ConvertSays f file old o ↔ (o ≡ outcome_of)
  convert-exactly o = (
    λ says. convert-decides f file old o outcome_of says (convert-meets f file old small outcome_of.answer outcome_of.out has-outcome),
    λ e. subst (ConvertSays f file old) (sym e) (convert-meets f file old small outcome_of.answer outcome_of.out has-outcome),
  )

  -- The contract follows from the sentences.
  pub convert-told : (o : Outcome) → ConvertSays f file old o → WayOf o
  convert-told o says = subst WayOf (sym ((convert-exactly o).0 says)) has-outcome

  pub every-conversion-has-an-outcome : (o : Outcome) × ConvertSays f file old o
  every-conversion-has-an-outcome = (outcome_of, (convert-exactly outcome_of).1 refl)
