-- A node that stands still, an item or a reserve, and else the step kind by kind, of its parts.
use borrow.Author.Rules.{rules}
use mir.Syntax.{w64}
use mir.Val.{SFits}
use mir.ValLaws.{to_z-of_z}
use Rattle.iter.specs.Laws.Shown.{paces-read}
use Rattle.iter.proofs.PaceLaws.{paces-item}
use Rattle.iter.proofs.paces.pace.Goals as goal

pub returns-then-adds_number : goal.returns-then-adds_number
returns-then-adds_number c =
    let item = c.adds_number.ensures c.if-adds_number.true in
    paces-item _ _ _ item.0 item.1 item.2 (rw c.stays_known.ensures at c.added.ensures)

pub returns : goal.returns
returns c =
    let a = c.args in
    let fits : SFits w64 a.def.start = search rules in
    paces-read a.def a.at a.node (rw (to_z-of_z w64 _ fits) at c.pace_of_parts.ensures)
