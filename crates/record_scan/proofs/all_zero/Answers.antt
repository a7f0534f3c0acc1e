-- `record_scan::all_zero`: `all` decides as the definition does.
use Rattle.std.proofs.Common.{eqb, refl, rules}
use Rattle.std.proofs.lemmas.List.Recursion.{and_is}
use Rattle.record_scan.specs.Windows.{all_zero}
use Rattle.record_scan.proofs.all_zero.Goals as goal

pub returns : goal.returns
unfolding all_zero
returns c = and_is all_zero (λ x. eqb x 0) refl (λ _ _. refl) c.args.scratch.now 0 _ (search rules) (search rules)
