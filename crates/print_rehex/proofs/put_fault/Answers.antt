-- `put_fault` meets its contract: the refusal's line, and behind it that of the line at fault where there is one.
use mathlib.Core.List.{[], ◌∷◌}
use mathlib.Core.Path.{sym, ◌∙◌}
use Prim.Native.Nat.{◌+◌, ◌≤◌}
use native.Mathlib.Omega.{arith}
use lib.ListN.{length}
use Rattle.print_text.specs.Ascii.{ascii}
use Rattle.print_text.specs.Lines.{line, refusal_text}
use Rattle.prog_args.specs.Laws.Text.{to_same, then-ends, then-stands}
use Rattle.prog_args.specs.Theorems.Text.{line-words}
use Rattle.record_scan.specs.Reading.{read_text}
use Rattle.print_rehex.specs.Laws.Turned.{fault-behind}
use borrow.Author.Rules.{rules}
use Rattle.print_rehex.proofs.put_fault.Goals as goal

pub returns-in-Some : goal.returns-in-Some
returns-in-Some c =
    let n = c.in-Some.line in
    let read = read_text c.args.kind c.args.load c.args.source.now in
    let some = fault-behind read n
    (sym c.in-Some.is
    ∙ c.line_at_fault-fault.ensures.0) in
    let puts = c.put_line.ensures in
    let short = line-words (ascii "line") (n ∷ []) (search rules, tt) in
    let room : length (refusal_text c.args.why) + length (line (ascii "line") (n ∷ [])) ≤ length c.args.out.now = omega
    (arith, short, c.put_refusal-at.ensures.stands.counted, c.put_refusal-at.ensures.upper_bound, c.requires) in
    rw (← some) (then-stands c.put_refusal-at.ensures.stands puts room (to_same (then-ends c.put_refusal-at.ensures.stands puts room)))
