-- `print_text::write_image` meets its contract: the words and the digits, one behind the other.
use mathlib.Core.Path.{sym, ap, ◌∙◌}
use mathlib.Core.List.{◌++◌}
use native.Mathlib.Omega.{arith}
use lib.ListN.{length, length-append}
use Rattle.print_text.specs.Ascii.{ascii}
use Rattle.std.proofs.lemmas.Bool.{eqb-true, eqb-false}
use Rattle.print_text.proofs.Image.{image-none, image-some}
use Rattle.print_text.specs.Laws.Sets.{writes_then, writes-room}
use Rattle.print_text.proofs.write_image.Goals as goal

pub write_word-requires : goal.write_word-requires
write_word-requires c = omega (arith, ap length (image-none c.args.hex.now (eqb-true _ _ (sym c.is_empty.ensures ∙ c.if-is_empty.true))))

pub returns-then-is_empty : goal.returns-then-is_empty
returns-then-is_empty c = rw (image-none c.args.hex.now (eqb-true _ _ (sym c.is_empty.ensures ∙ c.if-is_empty.true))) c.write_word.ensures

pub write_word-start-requires : goal.write_word-start-requires
write_word-start-requires c =
    let hex = c.args.hex.now in
    let some = ap length (image-some hex (eqb-false _ _ (sym c.is_empty.ensures ∙ c.if-is_empty.false))) in
    omega (arith, length-append (ascii "image " ++ hex) (ascii "\n"), length-append (ascii "image ") hex)

pub write_word-end-requires : goal.write_word-end-requires
write_word-end-requires c =
    let hex = c.args.hex.now in
    let some = ap length (image-some hex (eqb-false _ _ (sym c.is_empty.ensures ∙ c.if-is_empty.false))) in
    writes-room (ascii "image ") hex (omega (arith, length-append (ascii "image " ++ hex) (ascii "\n"))) c.write_word-start.ensures

pub write_word-requires-2 : goal.write_word-requires-2
write_word-requires-2 c =
    let hex = c.args.hex.now in
    let some = ap length (image-some hex (eqb-false _ _ (sym c.is_empty.ensures ∙ c.if-is_empty.false))) in
    writes-room (ascii "image " ++ hex) (ascii "\n") (omega arith) (writes_then c.write_word-start.ensures c.write_word-end.ensures)

pub returns : goal.returns
returns c =
    rw (image-some
    c.args.hex.now (eqb-false _ _ (sym c.is_empty.ensures ∙ c.if-is_empty.false)))
    (writes_then (writes_then c.write_word-start.ensures
    c.write_word-end.ensures) c.write_word-2.ensures)
