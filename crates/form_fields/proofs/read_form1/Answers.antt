-- `form_fields::read_form1` meets its contract.
use Rattle.form_fields.specs.Kind.{is1, form1}
use Rattle.form_fields.specs.Theorems.Told.{form-is}
use Rattle.form_fields.proofs.read_form1.Goals as goal

pub read_as-requires : goal.read_as-requires
read_as-requires c =
    is1

pub returns : goal.returns
returns c =
    form-is form1 c.args.file.now c.read_as.ensures
