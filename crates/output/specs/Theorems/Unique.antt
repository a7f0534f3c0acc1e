-- The build's contract leaves one outcome: two that meet it for one input are equal, the answer and everything lent afterwards.
use Rattle.std.specs.Prelude.{◌≡◌}
use Rattle.std.proofs.Common.{sym, subst}
use Rattle.prelude.specs.Laws.Pick.{determined}
use Rattle.output.specs.Output.{Input, Lent, Builds}
use Rattle.output.specs.declared.Output.{Output}

pub build-unique : (b : Input) (old : Lent) {r s : Output} {x y : Lent} → Builds b old r x → Builds b old s y → (r ≡ s) × (x ≡ y)
build-unique b old {r} {s} {x} {y} p q =
    let same : s ≡ r = determined q.answer p.answer in
    let q' = subst (λ (o : Output). Builds b old o y) same q in
    (sym same, determined p.left q'.left)
