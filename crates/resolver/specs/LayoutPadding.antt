-- The padding of an accepted layout: what the walk of its last pass carries for each bank (document 02, Ticket 2), what counts, and cases.
use Rattle.std.specs.Prelude.{[], ◌∷◌}
use Rattle.nodes.specs.Lists.{Lists, lists}

-- `addr` can go back, so that a sum passes 32 bits: `addr 1`, `align 4294967295`, and both again
abbrev pub back_again : Lists
back_again =
    lists (9 ∷ 8 ∷ 9 ∷ 8 ∷ []) (0 ∷ 0 ∷ 0 ∷ 0 ∷ []) (1 ∷ 4294967295 ∷ 1 ∷ 4294967295 ∷ []) (0 ∷ 0 ∷ 0 ∷ 0 ∷ []) 1 []
