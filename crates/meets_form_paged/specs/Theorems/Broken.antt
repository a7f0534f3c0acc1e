-- `dk_form_paged` of a broken file: 4 with the field's index, no pass run, nothing lent changed, whatever the page size. From the sentences alone.
use Rattle.std.specs.Prelude.{◌≡◌, List, ℕ}
use Rattle.says.specs.Words as words
use Rattle.says.specs.Build.{Lent, Outcome}
use Rattle.says.specs.Files.{Form, Broken}
use Rattle.says.specs.Form.{OfForm, broken_at}
use Rattle.says.specs.FormPaged as form
use Rattle.says.specs.FormPaged.{FormPagedSays}
use Rattle.meets_form_paged.specs.Theorems.Decides.{form-paged-decides}

pub broken-file-paged : {file : List ℕ} {fill page : ℕ} {old : Lent} {o : Outcome} → FormPagedSays file fill page old o → (f : Form) (i : ℕ)
    → OfForm file f → Broken f file i → o ≡ broken_at file fill old i
broken-file-paged {file} {fill} {page} {old} {o} says f i of b =
    form-paged-decides file fill page old o (broken_at file fill old i) says (form.broken of b words.is)
