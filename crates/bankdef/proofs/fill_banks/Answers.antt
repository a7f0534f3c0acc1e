use Rattle.std.proofs.Common.{ℕ, sym, ap, ◌∙◌, eqb}
use Rattle.std.proofs.lemmas.List.{at_drop_more, at_drop_all}
use Rattle.bankdef.proofs.Raise.{raise_from, chosen}
use Rattle.bankdef.proofs.fill_banks.Goals as goal

pub loop-b-preserved : goal.loop-b-preserved
unfolding raise_from
loop-b-preserved c =
    let l = c.args.banks.now in
    let e = at_drop_more (raise_from c.gap_of-gap.result c.loop-b.length) l c.loop-b.b-index _ c.loop-b-test.true in
    record {
      bound = c.filled-length.ensures.upper_bound;
      left = rw c.filled-length.ensures.value (c.loop-b.invariant.left ∙ e);
    }

pub returns-clause-value : goal.returns-clause-value
unfolding raise_from
returns-clause-value c =
    let l = c.args.banks.now in
    sym (c.loop-b.invariant.left ∙ at_drop_all (raise_from c.gap_of-gap.result c.loop-b.length) l c.loop-b.b-index c.loop-b-test.false)
    ∙ ap (λ (gap : ℕ). raise_from gap 0 l) c.gap_of-gap.ensures.value
    ∙ chosen (eqb c.args.choice 1) l
