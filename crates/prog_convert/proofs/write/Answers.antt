-- `write` meets its contract: form 1 is asked, or form 2, and what is handed on is what the sentence says. A file holds bytes.
use Rattle.std.proofs.Common.{ne_eqb}
use Rattle.prog_args.specs.Text.{Shows}
use Rattle.says.specs.Texts.{ConvertText}
use Rattle.meets_texts.specs.Laws.Shown.{shows-says}
use Rattle.meets_texts.specs.Printed.{convert_text}
use Rattle.meets_texts.specs.Theorems.Convert.{convert-text-meets}
use Rattle.prog_convert.proofs.write.Goals as goal

pub returns-then-form-eq1 : goal.returns-then-form-eq1
returns-then-form-eq1 g c =
    let a = c.args in
    let w = c.write_form1 in
    let shown : Shows (convert_text a.form a.file.now) w.result w.new.out = rw c.if-form-eq1.true w.ensures in
    shows-says (ConvertText a.form a.file.now) (convert-text-meets a.form a.file.now (λ i. (c.type_inv.file i).fits)) shown

pub returns : goal.returns
returns g c =
    let a = c.args in
    let w = c.write_form2 in
    let shown : Shows (convert_text a.form a.file.now) w.result w.new.out = rw (ne_eqb a.form 1 c.if-form-eq1.false) w.ensures in
    shows-says (ConvertText a.form a.file.now) (convert-text-meets a.form a.file.now (λ i. (c.type_inv.file i).fits)) shown
