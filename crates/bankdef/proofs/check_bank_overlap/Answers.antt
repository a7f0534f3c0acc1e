use Rattle.std.proofs.Common.{rules, sym, ◌∙◌, arith}
use Rattle.std.proofs.lemmas.List.{length_push}
use Rattle.std.proofs.lemmas.Grind.{common_steps}
use Rattle.std.proofs.lemmas.Iterator.Consumers.{YieldsList-turn, YieldsList-end}
use Rattle.bankdef.proofs.Walk.{numbered, pair, no-pair, past}
use Rattle.bankdef.proofs.check_bank_overlap.Goals as goal

pub returns-in-Some-first_overlap : goal.returns-in-Some-first_overlap
returns-in-Some-first_overlap c =
    let t = YieldsList-turn (numbered c.args.banks.now (cc) (cc) (cc)) c.loop-i.yielded _ c.loop-i.yielded_by _ _ _ c.in-Some.is c.next.ensures.steps in
    pair _ _ _ t c.loop-i.invariant.left (grind (arith, common_steps)) (sym c.first_overlap.ensures ∙ c.in-Some-first_overlap.is)

pub loop-i-preserved : goal.loop-i-preserved
loop-i-preserved c =
    let t = YieldsList-turn (numbered c.args.banks.now (cc) (cc) (cc)) c.loop-i.yielded _ c.loop-i.yielded_by _ _ _ c.in-Some.is c.next.ensures.steps in
    record {
      can = search rules;
      ends = search rules;
      left = rw length_push (no-pair _ _ _ t c.loop-i.invariant.left (grind (arith, common_steps)) (sym c.first_overlap.ensures ∙ c.in_default.is));
    }

pub returns : goal.returns
returns c =
    let t = YieldsList-end (numbered c.args.banks.now (cc) (cc) (cc)) c.loop-i.yielded _ c.loop-i.yielded_by _ _ c.in-None.is c.next.ensures.steps in
    past c.args.banks.now _ t.1 c.loop-i.invariant.left
