use mathlib.Core.Path.{◌≡◌, refl, ap, ◌∙◌}
use native.Mathlib.Omega.{arith}
use Rattle.nodes.specs.Lists.{Lists}
use borrow.Author.Rules.{rules}
use borrow.Author.Tests.{tests}
use Rattle.std.proofs.lemmas.Iterator.{YieldsList-from_range}
use Rattle.std.proofs.lemmas.Iterator.Search.{any_from_yields_List}
use Rattle.nodes.proofs.Faults.{asked, rows-asked}
use Rattle.nodes.proofs.Lent.any_row_fault.Goals as goal

pub returns : goal.returns
returns c =
    let l = c.args.self.now in
    let rows : c.self.inside.rows ≡ l.rows = ap (λ (x : Lists). x.rows) c.self.view_is in
    any_from_yields_List (asked l c.args.i c.args.item) _ _ _ c.any.ensures.ran (YieldsList-from_range 0 c.self.inside.rows l.rows refl (omega arith))
    (λ x b q k. search (rules, tests))
    ∙ rows-asked l c.args.i c.args.item c.requires l.rows
