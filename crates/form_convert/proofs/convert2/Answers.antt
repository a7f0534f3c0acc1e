-- `form_convert::convert2` meets its contract: the answer, and what is written where it is taken.
use mathlib.Core.Path.{◌≡◌, sym, ◌∙◌}
use mathlib.Core.Bool.{false}
use lib.ListN.{length}
use Rattle.form_fields.specs.Kind.{form1, form2}
use Rattle.form_fields.specs.Whole.{contents_in}
use Rattle.form_rewrite.specs.Turning.{to_form2}
use Rattle.form_convert.specs.Convert.{answer_for}
use Rattle.print_text.specs.Laws.Sets.{writes-front}
use Rattle.form_convert.proofs.There.{answer-is, converted-room, converts, refuses}
use Rattle.form_convert.proofs.convert2.Goals as goal

pub write2-requires-clause-file_in_bounds : goal.write2-requires-clause-file_in_bounds
write2-requires-clause-file_in_bounds c =
    -- the answer is the definition's
    let told : c.answer.result ≡ answer_for form2 (contents_in form1 c.args.file.now)
    (to_form2 (contents_in form1
    c.args.file.now)) false (length c.args.out.now) =
    let a = c.args in
    c.answer.ensures
    ∙ answer-is a.file.now a.shape c.requires (length a.out.now) c.nodes2-nodes.ensures c.stray1-first.ensures c.length2-size.ensures in
    let a = c.args in
    let e = sym told ∙ c.in-Ok.is in converted-room _ _ _ _ _ _ _ _ e

pub returns-in-Err : goal.returns-in-Err
returns-in-Err c =
    -- the answer is the definition's
    let told : c.answer.result ≡ answer_for form2 (contents_in form1 c.args.file.now)
    (to_form2 (contents_in form1
    c.args.file.now)) false (length c.args.out.now) =
    let a = c.args in
    c.answer.ensures
    ∙ answer-is a.file.now a.shape c.requires (length a.out.now) c.nodes2-nodes.ensures c.stray1-first.ensures c.length2-size.ensures in
    let a = c.args in
    refuses a.file.now a.shape c.requires (sym told ∙ c.in-Err.is)

pub returns-in-Ok : goal.returns-in-Ok
returns-in-Ok c =
    -- the answer is the definition's
    let told : c.answer.result ≡ answer_for form2 (contents_in form1 c.args.file.now)
    (to_form2 (contents_in form1
    c.args.file.now)) false (length c.args.out.now) =
    let a = c.args in
    c.answer.ensures
    ∙ answer-is a.file.now a.shape c.requires (length a.out.now) c.nodes2-nodes.ensures c.stray1-first.ensures c.length2-size.ensures in
    let a = c.args in
    let e = sym told ∙ c.in-Ok.is in
    converts a.file.now a.shape c.requires e
    (writes-front (converted-room _ _ _ _ _ _ _ _ e) c.write2.ensures)
