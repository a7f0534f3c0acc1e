-- `print_text::image_length` meets its contract: with digits, there is a space before them.
use mathlib.Core.Path.{sym, ap, ◌∙◌}
use mathlib.Core.List.{◌++◌}
use native.Mathlib.Omega.{arith}
use lib.ListN.{length, length-append}
use Rattle.print_text.specs.Ascii.{ascii}
use Rattle.std.proofs.lemmas.Bool.{eqb-true, eqb-false}
use Rattle.print_text.proofs.Image.{image-none, image-some}
use Rattle.print_text.proofs.image_length.Goals as goal

pub returns-then-is_empty : goal.returns-then-is_empty
returns-then-is_empty c =
    let hex = c.args.hex.now in
    sym (ap length (image-none hex (eqb-true _ _ (sym c.is_empty.ensures ∙ c.if-is_empty.true))))

pub returns-else-is_empty : goal.returns-else-is_empty
returns-else-is_empty c =
    let hex = c.args.hex.now in
    let some = ap length (image-some hex (eqb-false _ _ (sym c.is_empty.ensures ∙ c.if-is_empty.false))) in
    omega (arith, length-append (ascii "image " ++ hex) (ascii "\n"), length-append (ascii "image ") hex)
