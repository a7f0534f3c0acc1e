-- An offer held against a list of intervals: its place among them, and the one that it clashes with.
use Rattle.std.specs.Prelude.{Bool, false, ◌||◌, List, [], ◌∷◌, ℕ, suc, ltb, leb}
use Rattle.prelude.specs.Limits.{max_stored}
use Rattle.prelude.specs.Pick.{pick}
use Rattle.overlap_checker.specs.declared.Entry.{Entry}
use Rattle.overlap_checker.specs.Entries.{entry_at, entry_before}
use Rattle.overlap_checker.specs.Interval.{clashes}

-- how many entries start below a position: the place of an offer among ascending entries
unfoldable pub place_for : ℕ → List Entry → ℕ
place_for position [] = 0
place_for position (f ∷ l) = pick (ltb f.position position) (suc (place_for position l)) (place_for position l)

-- some entry clashes with the offer
unfoldable pub clashes_any : Entry → List Entry → Bool
clashes_any e [] = false
clashes_any e (f ∷ l) = clashes e f || clashes_any e l

-- "Refusal 12 names the lowest stored start at or above the offer if those two share a bit, otherwise the one below."
unfoldable pub named : List Entry → Entry → Entry
named l e =
    pick (clashes e (entry_at l (place_for e.position l)))
    (entry_at l (place_for e.position l))
    (entry_before l (place_for e.position l))

-- "13: the store holds 512 and the offer, of nonzero size, shares no bit"; "13 also when 512 marks are kept and another is acceptable": no room for an
-- offer of this size in a store of so many intervals and so many marks
unfoldable pub lacks_room : ℕ → ℕ → ℕ → Bool
lacks_room intervals marks size = leb max_stored (pick (ltb 0 size) intervals marks)
