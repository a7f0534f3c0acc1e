-- "An old reader refuses form 2 with 4": `dk_to_form2`, which reads form 1 alone, answers 4 0 to every file that begins with 16, and changes nothing.
use Rattle.std.specs.Prelude.{◌≡◌, List, get_or, ℕ}
use Rattle.says.specs.Files.{form-1}
use Rattle.meets_form.specs.Theorems.Forms.{old-reader}
use Rattle.says.specs.Convert as says
use Rattle.says.specs.Convert.{Outcome, refusal, ConvertSays}
use Rattle.meets_convert.specs.Theorems.Decides.{convert-decides}

pub form-2-refused-at-0 : (file old : List ℕ) (v : Outcome) → ConvertSays form-1 file old v → get_or file 0 0 ≡ 16 → v ≡ refusal form-1 file old 4 0
form-2-refused-at-0 file old v so first = convert-decides form-1 file old v _ so (says.broken (old-reader file first))
