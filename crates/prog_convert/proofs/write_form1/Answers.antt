-- `write_form1` meets its contract: what the conversion left and what was handed on of it.
use Rattle.form_fields.specs.Kind.{form1, form2, is1}
use Rattle.form_rewrite.specs.Turning.{to_form1, drops_bit}
use Rattle.prog_convert.specs.Laws.Program.{handed-shows}
use Rattle.meets_texts.specs.Printed.{form1_text}
use Rattle.prog_convert.proofs.write_form1.Goals as goal

pub returns : goal.returns
unfolding form1_text
returns g c =
    handed-shows form2 form1 to_form1 drops_bit c.args.file.now c.args.out.now _ is1 c.requires c.to_form1-answer.ensures.to_form1 c.hand.ensures
