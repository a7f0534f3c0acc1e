-- Meets and decides together: what `dk_form_paged` says of a file of bytes is so of one outcome, whatever is lent. So what follows from its contract follows
-- from its sentences.
use Rattle.std.specs.Prelude.{◌≡◌, refl, List, ◌↔◌, ℕ, Some}
use Rattle.std.proofs.Common.{sym, subst}
use Rattle.form_fields.specs.Banks.{table_of}
use Rattle.form_fields.specs.Whole.{Bytes}
use Rattle.form_build.specs.Filed.{lists_in, file_output, file_visits}
use Rattle.output.specs.Output.{room_of, left_by}
use Rattle.output.specs.declared.Output.{Output}
use Rattle.c_answers.specs.Told.{layout_told}
use Rattle.c_model.specs.Forms.{FormTold}
use Rattle.says.specs.Build.{Lent, Outcome}
use Rattle.says.specs.FormPaged.{FormPagedSays}
use Rattle.meets_build.specs.Laws.Contract.{lent_so}
use Rattle.meets_build.specs.Theorems.Meets.{lent_of}
use Rattle.meets_form_paged.specs.Theorems.Decides.{form-paged-decides}
use Rattle.meets_form_paged.specs.Theorems.Meets.{form-paged-meets}

module _ (file : List ℕ) (small : Bytes file) (fill page : ℕ) (old : Lent) where
  abbrev output : Output
  output = file_output file fill (Some page) (room_of (lent_of old))

  -- the outcome by the definitions
  abbrev pub outcome_of : Outcome
  outcome_of =
      record {
        answer = layout_told output;
        lent = lent_so (left_by (table_of file) (file_visits file output.passes) (lists_in file).values (lent_of old) output.build);
      }

  has-outcome : FormTold file fill (Some page) (lent_of old) outcome_of.answer (lent_of outcome_of.lent)
  has-outcome = record { answer = refl; built = record { answer = refl; left = refl } }

  -- What the sentences say is so, and nothing else.
  pub form-paged-exactly : (o : Outcome) → FormPagedSays file fill page old o ↔ (o ≡ outcome_of)
  form-paged-exactly o = (
    λ says. form-paged-decides file fill page old o outcome_of says
        (form-paged-meets file small fill page old outcome_of.answer outcome_of.lent has-outcome),
    λ e. subst (FormPagedSays file fill page old) (sym e)
        (form-paged-meets file small fill page old outcome_of.answer outcome_of.lent has-outcome),
  )

  -- The contract follows from the sentences.
  pub form-paged-told : (o : Outcome) → FormPagedSays file fill page old o → FormTold file fill (Some page) (lent_of old) o.answer (lent_of o.lent)
  form-paged-told o says =
      subst (λ (x : Outcome). FormTold file fill (Some page) (lent_of old) x.answer (lent_of x.lent)) (sym ((form-paged-exactly o).0 says)) has-outcome

  pub every-file-has-an-outcome : (o : Outcome) × FormPagedSays file fill page old o
  every-file-has-an-outcome = (outcome_of, (form-paged-exactly outcome_of).1 refl)
