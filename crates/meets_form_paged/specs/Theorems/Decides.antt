-- What `dk_form_paged` says of a file leaves one outcome: the bytes leave one layout or one broken field, and a layout leaves one (`paged-decides`).
use Rattle.std.specs.Prelude.{List, ℕ}
use Rattle.meets.specs.Laws.Words.{OneOnly}
use Rattle.says.specs.Build.{Given, Lent, Outcome}
use Rattle.meets_form.specs.Laws.FileSays as file-says
use Rattle.meets_form.specs.Laws.FileSays.{FileSays, file-decides}
use Rattle.says.specs.Paged.{PagedSays}
use Rattle.meets_profile.specs.Theorems.Decides.{paged-decides}
use Rattle.says.specs.FormPaged.{FormPagedSays, broken, laid}

module _ (file : List ℕ) (fill page : ℕ) (old : Lent) where
  so : {y : Outcome} → FormPagedSays file fill page old y → FileSays file fill old (λ (g : Given). PagedSays g page old) y
  so (broken o b x) = file-says.broken o b x
  so (laid o s l t) = file-says.laid o s l t

  pub form-paged-decides : OneOnly (FormPagedSays file fill page old)
  form-paged-decides y z a b = file-decides file fill old _ (λ g. paged-decides g page old) y z (so a) (so b)
