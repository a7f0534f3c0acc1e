-- One walk where the pass and the pass before it read one row, or where that walk tells what the pass comes to beside any other.
use mathlib.Core.Path.{◌≡◌, sym, ap, ◌∙◌}
use mathlib.Core.Bool.{false}
use lib.Dec.{eqb}
use borrow.Author.Rules.{rules}
use Rattle.resolver.specs.Laid.{Laid, over}
use Rattle.resolver.specs.OneWalk.{in_doubt}
use Rattle.resolver.specs.Passes.{pass_at}
use Rattle.resolver.proofs.Parts.{row_told}
use Rattle.resolver.proofs.passes.Layout.pass_at.Goals as goal

-- two rows, and no doubt
pub returns-then-not-in_doubt : goal.returns-then-not-in_doubt
returns-then-not-in_doubt c =
    let a = c.args in
    let l = c.self.inside in
    let sure : in_doubt c.pass_over-alone.result ≡ false = search rules in
    row_told l.banks l.kinds.now l.operands.now l.numbers.now l.states.now l.rows a.n a.is_last
    c.row_of_pass-row.ensures.value c.row_of_pass-row_before.ensures.value c.if-row-row_before.false
    (c.pass_over-alone.ensures ∙ ap (λ (x : Laid). over x c.row_of_pass-row.result c.row_of_pass-row.result (eqb a.n 1) a.is_last) (sym c.self.view_is))
    sure
    ∙ ap (λ (x : Laid). pass_at x.banks x.lists a.n a.is_last) c.self.view_is
