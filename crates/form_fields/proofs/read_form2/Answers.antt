-- `form_fields::read_form2` meets its contract.
use Rattle.form_fields.specs.Kind.{is2, form2}
use Rattle.form_fields.specs.Theorems.Told.{form-is}
use Rattle.form_fields.proofs.read_form2.Goals as goal

pub read_as-requires : goal.read_as-requires
read_as-requires c =
    is2

pub returns : goal.returns
returns c =
    form-is form2 c.args.file.now c.read_as.ensures
