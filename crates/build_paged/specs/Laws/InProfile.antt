-- Laws that Theorems/InProfile rests on.
use Rattle.std.specs.Prelude.{◌≡◌}
use Rattle.std.proofs.Common.{ap}
use Rattle.output.specs.Output.{Lent}
use Rattle.output.specs.declared.Output.{Output}
use Rattle.build_paged.specs.InProfile.{Outcome, outcome}

pub answer-of : {r s : Output} {x y : Lent} → outcome r x ≡ outcome s y → r ≡ s
answer-of e = ap (λ (o : Outcome). o.answer) e

pub left-of : {r s : Output} {x y : Lent} → outcome r x ≡ outcome s y → x ≡ y
left-of e = ap (λ (o : Outcome). o.left) e
