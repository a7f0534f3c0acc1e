-- Every outcome of `dk_form_paged` meets its sentences: a broken file is 4 with its field's index, no pass run and nothing lent changed; of a sound one the
-- contract is that of `dk_build_paged` on exactly the layout that the bytes say, which meets its own (`paged-meets`).
use Rattle.std.specs.Prelude.{◌≡◌, refl, List, ℕ, Some, Ok}
use Rattle.std.proofs.Common.{ap, ◌∙◌}
use Rattle.form_fields.specs.declared.Shape.{Shape}
use Rattle.form_fields.specs.Shape.{form_of}
use Rattle.form_fields.specs.Whole.{Bytes}
use Rattle.output.specs.Output.{Input}
use Rattle.c_answers.specs.Told.{layout_told}
use Rattle.c_answers.specs.declared.DkLayout.{DkLayout}
use Rattle.c_model.specs.Forms.{FormTold}
use Rattle.c_model.specs.Profiles.{PagedTold}
use Rattle.says.specs.Build.{Given, Lent, Outcome}
use Rattle.meets_build.specs.Theorems.Meets.{lent_of}
use Rattle.meets_form.specs.Laws.FileSays as file-says
use Rattle.meets_form.specs.Laws.FileSays.{FileSays}
use Rattle.meets_form.specs.Laws.FileMeets.{outcome, whole, built-so, left_so, file-meets}
use Rattle.meets_form.specs.Laws.Read.{given_by, typed}
use Rattle.says.specs.Paged.{PagedSays}
use Rattle.meets_profile.specs.Theorems.Meets.{paged-meets}
use Rattle.says.specs.FormPaged.{FormPagedSays, broken, laid}

said : (file : List ℕ) (fill page : ℕ) (old : Lent) (y : Outcome) → FileSays file fill old (λ (g : Given). PagedSays g page old) y
    → FormPagedSays file fill page old y
said file fill page old y (file-says.broken o b x) = broken o b x
said file fill page old y (file-says.laid o s l t) = laid o s l t

module _ (file : List ℕ) (small : Bytes file) (fill page : ℕ) (old : Lent) (r : DkLayout) (new : Lent)
    (told : FormTold file fill (Some page) (lent_of old) r (lent_of new)) where
  pub as-paged : (s : Shape) → form_of file ≡ Ok s
      → PagedTold page (whole file small fill (Some page) old r new told s) (lent_of old) r (lent_of new)
  as-paged s sound =
      record {
        answer = told.answer ∙ ap layout_told (built-so file small fill (Some page) old r new told s sound);
        built = record { answer = refl; left = left_so file small fill (Some page) old r new told s sound };
      }

  pub form-paged-meets : FormPagedSays file fill page old (outcome file small fill (Some page) old r new told)
  form-paged-meets =
      said file fill page old (outcome file small fill (Some page) old r new told)
      (file-meets file small fill (Some page) old r new told (λ (b : Input). PagedTold page b (lent_of old) r (lent_of new)) as-paged _
      (λ f t. paged-meets (given_by f file fill) (typed f file fill small) page old r new t))
