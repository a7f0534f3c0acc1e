-- What a layout comes to by its two checks.
use Rattle.std.specs.Prelude.{Err}
use mathlib.Core.Path.{◌≡◌, sym, subst, ◌∙◌}
use mathlib.Core.List.{[]}
use Rattle.prelude.specs.declared.Refusal.{Refusal}
use Rattle.prelude.specs.Verdict.{Verdict, Accepted}
use Rattle.bankdef.specs.Check.{check_of}
use Rattle.bankdef.specs.declared.Bankdefs.{Bankdefs}
use Rattle.resolver.specs.Layout.{layout_of}
use Rattle.nodes.specs.Lists.{Lists, lists, lists_of}
use Rattle.resolver.specs.Passes.{resolution_of}
use Rattle.resolver.specs.Figures.{Figures}
use Rattle.resolver.proofs.RefusedExactly.{layout-figures}
use Rattle.resolver.specs.declared.Choices.{Choices}
use Rattle.resolver.specs.declared.Resolution.{Resolution}

-- what turns a layout away, and what is left to the passes
module _ (banks : Bankdefs) (l : Lists) (choices : Choices) where
  pub banks-refused : {v : Verdict} {why : Refusal} {r : Resolution} → v ≡ check_of banks → v ≡ Err why
      → r ≡ record { settled = Err why; passes = 0 } → r ≡ layout_of banks l choices
  unfolding layout_of
  banks-refused e f h = rw (sym e ∙ f) h

  module _ {v : Verdict} (e : v ≡ check_of banks) (f : v ≡ Accepted) where
    pub lists-refused : {w : Verdict} {why : Refusal} {r : Resolution} → w ≡ lists_of banks.len l choices.fill → w ≡ Err why
        → r ≡ record { settled = Err why; passes = 0 } → r ≡ layout_of banks l choices
    unfolding layout_of
    lists-refused g h k = rw (sym e ∙ f, sym g ∙ h) k

    pub both-accepted : {w : Verdict} {r : Resolution} → w ≡ lists_of banks.len l choices.fill → w ≡ Accepted
        → r ≡ resolution_of banks (lists l.kinds l.operands l.numbers l.states l.rows []) choices.limit → r ≡ layout_of banks l choices
    unfolding layout_of
    both-accepted g h k = rw (sym e ∙ f, sym g ∙ h) k

-- an answer is what the definition gives, and so it tells what that tells
pub layout-told : (banks : Bankdefs) (l : Lists) (choices : Choices) {r : Resolution} → r ≡ layout_of banks l choices
    → (r ≡ layout_of banks l choices) × Figures banks l choices r
layout-told banks l choices e = (e, subst (Figures banks l choices) (sym e) (layout-figures banks l choices))
