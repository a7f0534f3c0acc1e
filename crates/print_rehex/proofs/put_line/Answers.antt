-- `put_line` meets its contract: a word and a number of at most twenty digits fit behind a refusal's line.
use mathlib.Core.List.{[], ◌∷◌}
use Prim.Native.Nat.{◌+◌, ◌≤◌}
use native.Mathlib.Omega.{arith}
use lib.ListN.{length}
use Rattle.print_text.specs.Ascii.{ascii}
use Rattle.print_text.specs.Laws.Ends.{puts-writes}
use Rattle.print_text.specs.Lines.{line}
use Rattle.prog_args.specs.Theorems.Text.{line-words}
use borrow.Author.Rules.{rules}
use Rattle.print_rehex.proofs.put_line.Goals as goal

pub write_line-requires : goal.write_line-requires
write_line-requires c =
    let roomy : c.args.at + length (line (ascii "line") (c.args.line ∷ [])) ≤ length c.args.out.now =
    omega (arith, line-words (ascii "line") (c.args.line ∷ []) (search rules, tt), c.requires.at_le_line_room, c.requires.text_room_in_bounds) in
    roomy

pub returns : goal.returns
returns c =
    let roomy : c.args.at + length (line (ascii "line") (c.args.line ∷ [])) ≤ length c.args.out.now =
    omega (arith, line-words (ascii "line") (c.args.line ∷ []) (search rules, tt), c.requires.at_le_line_room, c.requires.text_room_in_bounds) in
    puts-writes roomy c.write_line.ensures
