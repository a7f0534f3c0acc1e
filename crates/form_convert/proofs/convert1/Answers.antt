-- `form_convert::convert1` meets its contract: the answer, and what is written where it is taken.
use mathlib.Core.Path.{◌≡◌, sym, ◌∙◌}
use lib.ListN.{length}
use native.Mathlib.Omega.{arith}
use Rattle.form_fields.specs.Kind.{form1, form2, is2}
use Rattle.form_fields.specs.Whole.{contents_in}
use Rattle.form_rewrite.specs.Turning.{to_form1, drops_bit}
use Rattle.form_convert.specs.Convert.{answer_for}
use Rattle.print_text.specs.Laws.Sets.{writes-front}
use Rattle.form_rewrite.specs.Laws.Sizes.{sizes}
use Rattle.form_convert.proofs.There.{converted-room}
use Rattle.form_convert.proofs.Back.{back-answer, back-converts, back-refuses}
use Rattle.form_convert.proofs.convert1.Goals as goal

pub bits_clear-clear-requires : goal.bits_clear-clear-requires
bits_clear-clear-requires c =
    omega (
      arith,
      sizes is2 c.args.file.now c.args.shape c.requires,
    )

pub write1-requires-clause-file_in_bounds : goal.write1-requires-clause-file_in_bounds
write1-requires-clause-file_in_bounds c =
    -- the answer is the definition's
    let told : c.answer.result ≡ answer_for form1 (contents_in form2 c.args.file.now) (to_form1 (contents_in form2
    c.args.file.now)) (drops_bit (contents_in form2 c.args.file.now)) (length c.args.out.now) =
    let a = c.args in
    c.answer.ensures
    ∙ back-answer a.file.now a.shape c.requires (length a.out.now) c.stray2-first.ensures c.length1-size.ensures c.bits_clear-clear.ensures in
    let e = sym told ∙ c.in-Ok.is in converted-room _ _ _ _ _ _ _ _ e

pub returns-in-Err : goal.returns-in-Err
returns-in-Err c =
    -- the answer is the definition's
    let told : c.answer.result ≡ answer_for form1 (contents_in form2 c.args.file.now) (to_form1 (contents_in form2
    c.args.file.now)) (drops_bit (contents_in form2 c.args.file.now)) (length c.args.out.now) =
    let a = c.args in
    c.answer.ensures
    ∙ back-answer a.file.now a.shape c.requires (length a.out.now) c.stray2-first.ensures c.length1-size.ensures c.bits_clear-clear.ensures in
    let a = c.args in
    back-refuses a.file.now a.shape c.requires (sym told ∙ c.in-Err.is)

pub returns-in-Ok : goal.returns-in-Ok
returns-in-Ok c =
    -- the answer is the definition's
    let told : c.answer.result ≡ answer_for form1 (contents_in form2 c.args.file.now) (to_form1 (contents_in form2
    c.args.file.now)) (drops_bit (contents_in form2 c.args.file.now)) (length c.args.out.now) =
    let a = c.args in
    c.answer.ensures
    ∙ back-answer a.file.now a.shape c.requires (length a.out.now) c.stray2-first.ensures c.length1-size.ensures c.bits_clear-clear.ensures in
    let a = c.args in
    let e = sym told ∙ c.in-Ok.is in
    back-converts a.file.now a.shape c.requires e (writes-front (converted-room _ _ _ _ _ _ _ _ e) c.write1.ensures)
