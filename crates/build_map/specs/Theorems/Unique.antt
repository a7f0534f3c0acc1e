-- The map's contract leaves one outcome: two that meet it for one input are equal, the answer and everything lent afterwards.
use Rattle.std.specs.Prelude.{◌≡◌}
use Rattle.std.proofs.Common.{sym, subst}
use Rattle.prelude.specs.Laws.Pick.{determined}
use Rattle.output.specs.Output.{Input}
use Rattle.build_map.specs.Map.{Lent, Maps}
use Rattle.build_map.specs.declared.Map.{Map}

pub map-unique : (b : Input) (old : Lent) {r s : Map} {x y : Lent} → Maps b old r x → Maps b old s y → (r ≡ s) × (x ≡ y)
map-unique b old {r} {s} {x} {y} p q =
    let same : s ≡ r = determined q.answer p.answer in
    let q' = subst (λ (m : Map). Maps b old m y) same q in
    (sym same, determined p.left q'.left)
