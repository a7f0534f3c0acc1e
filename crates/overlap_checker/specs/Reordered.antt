-- "Order of lines doesn't matter" (document 02, Ticket 11), of the store: offers to it, not lines of a layout, since moving a line moves the positions
-- of what comes after it, and then other offers are made.
use Rattle.std.specs.Prelude.{◌≡◌, List, [], ◌∷◌, length}
use Rattle.prelude.specs.Limits.{max_stored}
use Rattle.prelude.specs.Verdict.{Verdict, Accepted}
use Rattle.overlap_checker.specs.Lent.{Lent}

-- "accepted as a whole": every answer is yes
abbrev pub AllAccepted : List (Verdict) → Type 0
AllAccepted [] = Unit {0}
AllAccepted (v ∷ vs) = (v ≡ Accepted) × AllAccepted vs

-- ---- and of calls of `check_and_insert`, each on what the one before it left

-- "an empty store": three arrays of 512, whatever they hold, and counts of 0
pub record HoldsNothing (a : Lent) : Type 0 where
  pub positions : length a.positions ≡ max_stored
  pub sizes : length a.sizes ≡ max_stored
  pub marks : length a.marks ≡ max_stored
  pub count : a.count ≡ 0
  pub mark_count : a.mark_count ≡ 0
