-- A label's state: never stable in pass 1, and "its address equals that of the pass before" is equality of the addresses themselves.
use Rattle.std.specs.Prelude.{ℕ, ◌/◌, ◌≡◌, true, pos, ◌+ℤ◌, Ok}
use Rattle.std.proofs.Common.{ap, eq-eqb, eqb-true}
use Rattle.bankdef.specs.declared.Bankdef.{Bankdef}
use Rattle.iter.specs.Address.{units_from}
use Rattle.iter.specs.declared.Pos.{Pos}
use Rattle.resolver.specs.Once.{same_address}
use Rattle.resolver.specs.Laws.Labels.{cancel, units_of}

-- "its address equals that of the pass before", one way and the other
module _ (def : Bankdef) (now before : Pos) where
  pub same_address_lem : same_address def now (Ok before) ≡ true → units_from def now.position ≡ units_from def before.position
  same_address_lem e = ap (λ (n : ℕ). def.start +ℤ pos n) (eqb-true (now.position / def.unit) (before.position / def.unit) e)

  pub address_same : units_from def now.position ≡ units_from def before.position → same_address def now (Ok before) ≡ true
  address_same e =
      eq-eqb (now.position / def.unit) (before.position / def.unit)
      (units_of (cancel def.start (pos (now.position / def.unit)) (pos (before.position / def.unit)) e))
