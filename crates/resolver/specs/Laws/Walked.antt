-- Laws that Theorems/Walked rests on.
use Rattle.std.specs.Prelude.{ℕ, ◌≡◌, Bool, true, false, Result, Ok, Err}
use Rattle.prelude.specs.Pick.{pick}
use Rattle.prelude.specs.declared.Refusal.{Refusal}
use Rattle.iter.specs.declared.Walk.{Walk}
use Rattle.resolver.specs.Once.{on, goes_on}

pub goes-walk : (x : Walk) (r : Result ℕ Refusal) {w : Walk} {s : ℕ} → goes_on x r ≡ on w s → (w ≡ x) × (r ≡ Ok s)
goes-walk x (Ok t) e = (cc, cc)
goes-walk x (Err why) e = (cc, cc)

pub taken-state : (t : Bool) (why : Refusal) (x : ℕ) {s : ℕ} → pick t (Err why) (Ok x) ≡ Ok s → s ≡ x
taken-state true why x e = cc
taken-state false why x e = cc
