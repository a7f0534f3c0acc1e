-- The store without its arrays: what it holds, what it answers to an offer, and what it holds afterwards (document 01, "Store").
use Rattle.std.specs.Prelude.{Bool, true, false, ◌||◌, List, [], ◌∷◌, ◌++◌, ℕ, ltb, length, take, drop, Err}
use Rattle.prelude.specs.Pick.{pick}
use Rattle.prelude.specs.Told.{Told, gives, refuses, Nothing, nothing}
use Rattle.prelude.specs.declared.Refusal.TheVariants.{Overlap, StoreFull}
use Rattle.prelude.specs.declared.Place.TheVariants.{One, Two}
use Rattle.prelude.specs.Verdict.{Verdict, Accepted}
use Rattle.overlap_checker.specs.declared.Entry.{Entry}
use Rattle.overlap_checker.specs.Interval.{interval}
use Rattle.overlap_checker.specs.Offers.{place_for, clashes_any, named, lacks_room}
use Rattle.overlap_checker.specs.Marks.{count_below, crosses_any, lowest_inside}

-- what a store holds: the stored intervals, ascending, and the marks, ascending
pub record State : Type 0 where
  pub intervals : List Entry
  pub marks : List ℕ

abbrev pub holding : List Entry → List ℕ → State
holding l ms = record { intervals = l; marks = ms }

-- a store that holds nothing
abbrev pub empty_state : State
empty_state = holding [] []

-- "12: a placement overlaps"; "12 also for that": the offer clashes with a stored interval, or a mark is strictly inside it
unfoldable pub meets : State → Entry → Bool
meets s e = clashes_any e s.intervals || crosses_any e s.marks

-- "A store call tries .. 12, 13": one of three, by the offer. An offer that meets nothing and finds room "is accepted".
unfoldable pub tries : {X : Type 0} → State → Entry → X → X → X → X
tries s e overlaps full passes =
    pick (meets s e) overlaps (pick (lacks_room (length s.intervals) (length s.marks) e.size) full passes)

-- what 12 names: the interval, "naming the lowest such mark unless an interval is to be named"
unfoldable pub named_in : State → Entry → Entry
named_in s e = pick (clashes_any e s.intervals) (named s.intervals e) (interval (lowest_inside e s.marks) 0)

-- What an offer, made for a node, is answered: as the enum, and in document 01's figures. "12 the stored start and size" (a mark has size 0), "13 too in a
-- build": the node.
abbrev pub answer : State → Entry → ℕ → Verdict
answer s e node = tries s e (Err (Overlap (named_in s e).position (named_in s e).size)) (Err (StoreFull node)) Accepted

abbrev pub figures : State → Entry → ℕ → Told Nothing
figures s e node = tries s e (refuses 12 (Two (named_in s e).position (named_in s e).size)) (refuses 13 (One node)) (gives nothing)

abbrev pub is_accepted : Verdict → Bool
is_accepted Accepted = true
is_accepted (Err why) = false

-- something put into a list at a place
abbrev pub put_at : {X : Type 0} → ℕ → X → List X → List X
put_at place x l = take place l ++ x ∷ drop place l

-- an interval put in at its place
abbrev pub inserted : List Entry → Entry → List Entry
inserted l e = put_at (place_for e.position l) e l

-- a mark put in at its place
abbrev pub marked : List ℕ → ℕ → List ℕ
marked ms m = put_at (count_below m ms) m ms

-- "an offer of nonzero size is kept in ascending order"; one of size 0 is a mark: "Remember marks .. apart from intervals"
unfoldable pub keeping : State → Entry → State
keeping s e =
    pick (ltb 0 e.size) (holding (inserted s.intervals e) s.marks) (holding s.intervals (marked s.marks e.position))

-- the state after an offer, accepted or refused; the node that it is made for makes no difference to it
unfoldable pub after : State → Entry → State
after s e = pick (is_accepted (answer s e 0)) (keeping s e) s
