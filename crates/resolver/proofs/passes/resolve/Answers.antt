-- The banks' verdict, the lists' verdict, and the passes, which the accepted lists make sound.
use mathlib.Core.Path.{sym, ◌∙◌}
use Rattle.nodes.specs.Lists.{Lists, lists}
use Rattle.nodes.specs.Theorems.Sound.{accepted-lists}
use Rattle.resolver.proofs.Accepted.{banks-refused, lists-refused, both-accepted, layout-told}
use Rattle.resolver.specs.Theorems.Switches.{accepted-switches}
use Rattle.resolver.proofs.passes.resolve.Goals as goal

pub invariant_of-layout : goal.invariant_of-layout
invariant_of-layout c =
    let given : Lists =
    lists c.args.kinds.now c.args.operands.now c.args.numbers.now c.args.states.now c.args.rows c.args.values.now in
    let a = c.args in
    let l = c.check_lists.ensures.value in
    let t = c.check.ensures.value in
    let passed = c.in-Ok.is in
    let sound = accepted-lists a.banks.len (given) a.choices.fill (sym l ∙ c.in-Ok-check_lists.is) in
    record {
      paired = sound.operands;
      rowed = sound.rows;
      banked = accepted-switches a.banks (given) a.choices.fill t passed l c.in-Ok-check_lists.is;
    }

pub returns-in-Err-clause-value : goal.returns-in-Err-clause-value
returns-in-Err-clause-value c = banks-refused _ _ _ c.check.ensures.value c.in-Err.is c.turned_away.ensures

pub returns-in-Err-clause-told : goal.returns-in-Err-clause-told
returns-in-Err-clause-told c = (layout-told _ _ _ (returns-in-Err-clause-value c)).1

pub returns-in-Err-check_lists-clause-value : goal.returns-in-Err-check_lists-clause-value
returns-in-Err-check_lists-clause-value c =
    lists-refused _ _ _ c.check.ensures.value c.in-Ok.is c.check_lists.ensures.value c.in-Err-check_lists.is
    c.turned_away-in-Err-check_lists.ensures

pub returns-in-Err-check_lists-clause-told : goal.returns-in-Err-check_lists-clause-told
returns-in-Err-check_lists-clause-told c = (layout-told _ _ _ (returns-in-Err-check_lists-clause-value c)).1

pub returns-in-Ok-check_lists-clause-value : goal.returns-in-Ok-check_lists-clause-value
returns-in-Ok-check_lists-clause-value c =
    both-accepted _ _ _ c.check.ensures.value c.in-Ok.is c.check_lists.ensures.value c.in-Ok-check_lists.is
    c.resolve_iteratively.ensures

pub returns-in-Ok-check_lists-clause-told : goal.returns-in-Ok-check_lists-clause-told
returns-in-Ok-check_lists-clause-told c = (layout-told _ _ _ (returns-in-Ok-check_lists-clause-value c)).1
