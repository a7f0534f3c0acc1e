-- Marks: the offers of size 0 that were accepted, kept by their position, "apart from intervals", ascending; "marks may coincide, each kept"
-- (document 02, Ticket 10).
use Rattle.std.specs.Prelude.{Bool, false, ◌||◌, ℕ, suc, ◌≤◌, ◌<◌, ltb, length, get_or}
use mathlib.Core.List.{List, [], ◌∷◌, Memᴰ}
use Rattle.prelude.specs.Limits.{max_offer}
use Rattle.prelude.specs.Pick.{pick}
use Rattle.overlap_checker.specs.declared.Entry.{Entry}
use Rattle.overlap_checker.specs.Interval.{interval, StrictlyInside, strictly_inside}
use Rattle.overlap_checker.specs.Offers.{clashes_any}

-- how many numbers of a list are below a bound: the place of a mark among ascending ones
unfoldable pub count_below : ℕ → List ℕ → ℕ
count_below bound [] = 0
count_below bound (n ∷ l) = pick (ltb n bound) (suc (count_below bound l)) (count_below bound l)

-- "A block is refused when a mark is strictly inside it"
unfoldable pub crosses_any : Entry → List ℕ → Bool
crosses_any e [] = false
crosses_any e (m ∷ ms) = strictly_inside m e || crosses_any e ms

-- "naming the lowest such mark": of ascending marks the first that is strictly inside; the offer's own start where none is
unfoldable pub lowest_inside : Entry → List ℕ → ℕ
lowest_inside e [] = e.position
lowest_inside e (m ∷ ms) = pick (strictly_inside m e) m (lowest_inside e ms)

-- "marks out of ascending order (equal ones are in order) or strictly inside an interval", or past an offer's limit. `floor` is the mark before,
-- 0 for the first. An offer of size 0 clashes with the intervals that its position is strictly inside of.
unfoldable pub mark_at_fault : List Entry → ℕ → ℕ → Bool
mark_at_fault l floor m = ltb max_offer m || (ltb m floor || clashes_any (interval m 0) l)

-- the first mark at fault: its index, or the number of marks where none is
unfoldable pub first_mark_fault : List Entry → ℕ → List ℕ → ℕ
first_mark_fault l floor [] = 0
first_mark_fault l floor (m ∷ ms) = pick (mark_at_fault l floor m) 0 (suc (first_mark_fault l m ms))

-- What 15 leaves of the marks, said of all of them: each is within the limit, none is below one before it, none is strictly inside an interval.
pub record ProperMarks (l : List Entry) (ms : List ℕ) : Type 0 where
  pub within : (i : ℕ) → i < length ms → get_or ms i 0 ≤ max_offer
  pub ordered : (i j : ℕ) → i < j → j < length ms → get_or ms i 0 ≤ get_or ms j 0
  pub outside : (i : ℕ) → i < length ms → (f : Entry) → Memᴰ f l → StrictlyInside (get_or ms i 0) f → ⊥
