-- `form_rewrite::write2` meets its contract: one bank, or any other number.
use Prim.Native.Nat.{◌≤◌}
use mathlib.Core.Path.{sym, subst}
use lib.ListN.{length}
use Rattle.form_fields.specs.Kind.{form2}
use Rattle.form_fields.specs.Contents.{Contents, written}
use Rattle.print_text.specs.Puts.{Writes}
use Rattle.form_rewrite.proofs.Assembled.{to-widened, to-lengthened}
use Rattle.form_rewrite.proofs.write2.Goals as goal

pub write_widened-requires-clause-file_in_bounds : goal.write_widened-requires-clause-file_in_bounds
write_widened-requires-clause-file_in_bounds c =
    let a = c.args in
    let e = to-widened a.file.now a.shape c.requires.read c.if-shape-eq1.true in subst (λ (d : Contents). length (written form2 d) ≤ length a.out.now) e
    c.requires.file_in_bounds

pub returns-then-shape-eq1 : goal.returns-then-shape-eq1
returns-then-shape-eq1 c =
    let a = c.args in
    subst (λ (d : Contents). Writes (written form2 d) a.out.now 0 c.write_widened.result c.write_widened.new.out)
    (sym (to-widened a.file.now a.shape c.requires.read c.if-shape-eq1.true)) c.write_widened.ensures

pub write_lengthened-requires-clause-file_in_bounds : goal.write_lengthened-requires-clause-file_in_bounds
write_lengthened-requires-clause-file_in_bounds c =
    let a = c.args in
    let e = to-lengthened a.file.now a.shape c.requires.read c.if-shape-eq1.false in
    subst (λ (d : Contents). length (written form2 d) ≤ length a.out.now) e c.requires.file_in_bounds

pub returns : goal.returns
returns c =
    let a = c.args in
    subst (λ (d : Contents). Writes (written form2 d) a.out.now 0 c.write_lengthened.result c.write_lengthened.new.out)
    (sym (to-lengthened a.file.now a.shape c.requires.read c.if-shape-eq1.false)) c.write_lengthened.ensures
