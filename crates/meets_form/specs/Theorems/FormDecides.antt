-- What `dk_form` says of a file leaves one outcome: the bytes leave one layout or one broken field, and a layout leaves one outcome (`build-decides`).
use Rattle.std.specs.Prelude.{List, ℕ}
use Rattle.meets.specs.Laws.Words.{OneOnly}
use Rattle.says.specs.Build.{Given, Lent, Outcome, BuildSays}
use Rattle.meets_sentences.specs.Theorems.Decides.{build-decides}
use Rattle.says.specs.Form.{FormSays, broken, laid}
use Rattle.meets_form.specs.Laws.FileSays as file-says
use Rattle.meets_form.specs.Laws.FileSays.{FileSays, file-decides}

module _ (file : List ℕ) (fill : ℕ) (old : Lent) where
  so : {y : Outcome} → FormSays file fill old y → FileSays file fill old (λ (g : Given). BuildSays g old) y
  so (broken o b x) = file-says.broken o b x
  so (laid o s l t) = file-says.laid o s l t

  pub form-decides : OneOnly (FormSays file fill old)
  form-decides y z a b = file-decides file fill old _ (λ g. build-decides g old) y z (so a) (so b)
