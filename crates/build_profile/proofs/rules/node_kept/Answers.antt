-- A node of another kind keeps the rule; one of this kind is read row by row.
use Prim.Native.Nat.{ℕ, ◌+◌, ◌*◌, ◌/◌}
use mathlib.Core.Path.{◌≡◌, sym, ◌∙◌}
use mathlib.Core.Bool.{Bool, true, false, not, ◌||◌}
use lib.Dec.{eqb}
use lib.ListN.{get_or, length}
use borrow.Author.Rules.{rules}
use Rattle.build_profile.specs.Laws.RuleLaws.{all-kept}
use Rattle.build_profile.specs.Rules.{kept_by}
use Rattle.build_profile.proofs.rules.node_kept.Goals as goal

pub returns-then-kind-about : goal.returns-then-kind-about
returns-then-kind-about c =
    let n = c.args.n in
    -- the rule, by whether the node is of the kind
    let keeps : Bool → ℕ → Bool =
    λ is r. not is || kept_by c.args.rule (get_or c.args.numbers.now (r * n + c.args.i) 0) c.args.unit in
    let other : eqb c.args.kind c.args.about ≡ false = search rules in
    let kept : not (eqb c.args.kind c.args.about) ≡ true = rw other in
    kept ∙ sym (all-kept (keeps (eqb c.args.kind c.args.about)) (length c.args.numbers.now / n) (λ k h. rw other))
