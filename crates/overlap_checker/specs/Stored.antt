-- What may stand in a store, and what is at fault there (15).
use Rattle.std.specs.Prelude.{Bool, ◌||◌, List, [], ◌∷◌, ℕ, suc, ◌<◌, ltb, eqb, length}
use Rattle.prelude.specs.Pick.{pick}
use Rattle.overlap_checker.specs.declared.Entry.{Entry}
use Rattle.overlap_checker.specs.Entries.{entry_at}
use Rattle.overlap_checker.specs.Interval.{end, ShareBit, Within, past_limits}

-- "entries past an offer's limits, empty, not ascending or sharing a bit". `floor` is where the entry before ends, 0 for the first;
-- that entry is not empty, so to start before its end is to be not ascending or to share a bit with it.
unfoldable pub at_fault : ℕ → Entry → Bool
at_fault floor e = past_limits e || (eqb e.size 0 || ltb e.position floor)

-- "the first entry at fault": its index, or the number of entries where none is
unfoldable pub first_fault : ℕ → List Entry → ℕ
first_fault floor [] = 0
first_fault floor (e ∷ l) = pick (at_fault floor e) 0 (suc (first_fault (end e) l))

-- What 15 leaves, said of all entries with bits: each is within the limits and not empty, and of any two the later starts above the other
-- and shares no bit with it.
pub record Proper (l : List Entry) : Type 0 where
  pub within : (i : ℕ) → i < length l → Within (entry_at l i)
  pub nonempty : (i : ℕ) → i < length l → 0 < (entry_at l i).size
  pub ascends : (i j : ℕ) → i < j → j < length l → (entry_at l i).position < (entry_at l j).position
  pub disjoint : (i j : ℕ) → i < j → j < length l → ShareBit (entry_at l i) (entry_at l j) → ⊥
