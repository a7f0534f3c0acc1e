-- The step of what it reads of the record and of the node.
use borrow.Author.Rules.{rules}
use mir.Syntax.{w64}
use mir.Val.{SFits}
use mir.ValLaws.{to_z-of_z}
use Rattle.iter.specs.Laws.Shown.{paces-read}
use Rattle.build_map.proofs.entries.step_of.Goals as goal

pub returns : goal.returns
returns c =
    let a = c.args in
    let fits : SFits w64 a.def.start = search rules in
    paces-read a.def a.at a.node (rw (to_z-of_z w64 _ fits) at c.pace_of_parts.ensures)
