-- `write_form2` meets its contract: what the conversion left and what was handed on of it.
use Rattle.form_fields.specs.Kind.{form1, form2, is2}
use Rattle.form_rewrite.specs.Turning.{to_form2}
use Rattle.form_convert.specs.Convert.{drops_none}
use Rattle.prog_convert.specs.Laws.Program.{handed-shows}
use Rattle.meets_texts.specs.Printed.{form2_text}
use Rattle.prog_convert.proofs.write_form2.Goals as goal

pub returns : goal.returns
unfolding form2_text
returns g c =
    handed-shows form1 form2 to_form2 drops_none c.args.file.now c.args.out.now _ is2 c.requires c.to_form2-answer.ensures.to_form2 c.hand.ensures
