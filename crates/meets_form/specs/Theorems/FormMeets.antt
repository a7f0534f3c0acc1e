-- Every outcome of `dk_form` meets its sentences: a broken file is 4 with its field's index, no pass run and nothing lent changed; of a sound one the
-- contract is that of `dk_build` on exactly the layout that the bytes say, which meets its own (`build-meets`).
use Rattle.std.specs.Prelude.{◌≡◌, refl, List, ℕ, None, Ok}
use Rattle.std.proofs.Common.{ap, ◌∙◌}
use Rattle.form_fields.specs.declared.Shape.{Shape}
use Rattle.form_fields.specs.Shape.{form_of}
use Rattle.form_fields.specs.Whole.{Bytes}
use Rattle.output.specs.Output.{Input, room_of}
use Rattle.thm_conversions.specs.Laws.Figures.{build-told}
use Rattle.c_answers.specs.Told.{layout_told}
use Rattle.c_answers.specs.declared.DkLayout.{DkLayout}
use Rattle.c_model.specs.Forms.{FormTold}
use Rattle.c_model.specs.Tables.{TablesTold}
use Rattle.says.specs.Build.{Given, Lent, Outcome, BuildSays}
use Rattle.meets_build.specs.Theorems.Meets.{lent_of, build-meets}
use Rattle.says.specs.Form.{FormSays, broken, laid}
use Rattle.meets_form.specs.Laws.FileSays as file-says
use Rattle.meets_form.specs.Laws.FileSays.{FileSays}
use Rattle.meets_form.specs.Laws.FileMeets.{outcome, whole, built-so, left_so, file-meets}
use Rattle.meets_form.specs.Laws.Read.{given_by, typed}

said : (file : List ℕ) (fill : ℕ) (old : Lent) (y : Outcome) → FileSays file fill old (λ (g : Given). BuildSays g old) y → FormSays file fill old y
said file fill old y (file-says.broken o b x) = broken o b x
said file fill old y (file-says.laid o s l t) = laid o s l t

module _ (file : List ℕ) (small : Bytes file) (fill : ℕ) (old : Lent) (r : DkLayout) (new : Lent)
    (told : FormTold file fill None (lent_of old) r (lent_of new)) where
  pub as-tables : (s : Shape) → form_of file ≡ Ok s → TablesTold (whole file small fill None old r new told s) (lent_of old) r (lent_of new)
  as-tables s sound =
      record {
        answer = told.answer ∙ ap layout_told (built-so file small fill None old r new told s sound);
        built = record {
          answer = refl;
          figures = build-told (whole file small fill None old r new told s) (room_of (lent_of old));
          left = left_so file small fill None old r new told s sound;
        };
      }

  pub form-meets : FormSays file fill old (outcome file small fill None old r new told)
  form-meets =
      said file fill old (outcome file small fill None old r new told)
      (file-meets file small fill None old r new told (λ (b : Input). TablesTold b (lent_of old) r (lent_of new)) as-tables _
      (λ f t. build-meets (given_by f file fill) (typed f file fill small) old r new t))
