-- What placing one node leaves in the store.
use Rattle.std.specs.Prelude.{◌≡◌, List, [], ◌∷◌}
use Rattle.prelude.specs.Verdict.{Verdict, Accepted}
use Rattle.overlap_checker.specs.declared.Entry.{Entry}
use Rattle.overlap_checker.specs.Folds.{state_after}
use Rattle.overlap_checker.specs.Lent.{Lent as Store, state_in, Sound, laid_into, leaving}
use Rattle.overlap_checker.specs.State.{after}

-- the arrays with a node's offer laid into them, if it makes one
abbrev pub offered_into : Store → List Entry → Store
offered_into a [] = a
offered_into a (e ∷ none) = laid_into a (after (state_in a) e)

-- Where a node is accepted, the store holds what its offer makes of it; and it is sound in any case. What stands in the arrays: "each refusal .. changes
-- nothing lent", an accepted offer is laid into them.
pub record Goes (a : Store) (offer : List Entry) (r : Verdict) (b : Store) : Type 0 where
  pub state : r ≡ Accepted → state_in b ≡ state_after (state_in a) offer
  pub sound : Sound b
  pub left : b ≡ leaving r (offered_into a offer) a
