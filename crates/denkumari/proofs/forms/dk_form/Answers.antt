-- `dk_form` says its sentence: the build of the file, told in numbers. A file holds bytes.
use Rattle.meets_form.specs.Theorems.FormMeets.{form-meets}
use Rattle.denkumari.proofs.FormLaws.{form-told}
use Rattle.denkumari.proofs.forms.dk_form.Goals as goal

pub returns : goal.returns
returns c =
    form-meets _ (λ i. (c.shared_slice_known-1.given i).fits) _ _ _ _ (form-told c.tell_layout.ensures c.build_file.ensures)
