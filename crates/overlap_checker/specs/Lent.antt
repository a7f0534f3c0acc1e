-- The store as it is lent: two arrays, positions and sizes, and a count; an array of marks, and theirs. What they hold, when that is sound, and
-- what a call leaves there.
use Rattle.std.specs.Prelude.{◌≡◌, ◌||◌, List, [], ◌∷◌, ◌++◌, map, ℕ, ◌+◌, ◌≤◌, ltb, length, take, drop, Err}
use Rattle.prelude.specs.Limits.{max_stored}
use Rattle.prelude.specs.Pick.{pick}
use Rattle.prelude.specs.Told.{Told, refuses, Nothing, told_verdict}
use Rattle.prelude.specs.declared.Place.TheVariants.{One}
use Rattle.prelude.specs.declared.Refusal.TheVariants.{Malformed, BadStore}
use Rattle.prelude.specs.declared.Refusal.{Refusal}
use Rattle.prelude.specs.Verdict.{Verdict, Accepted}
use Rattle.overlap_checker.specs.declared.Entry.{Entry}
use Rattle.overlap_checker.specs.declared.Offered.{Offered}
use Rattle.overlap_checker.specs.Interval.{interval, past_limits}
use Rattle.overlap_checker.specs.Stored.{first_fault}
use Rattle.overlap_checker.specs.Marks.{first_mark_fault}
use Rattle.overlap_checker.specs.State.{State, holding, put_at, answer, figures, after}

-- the intervals' part
pub record Spans : Type 0 where
  pub positions : List ℕ
  pub sizes : List ℕ
  pub count : ℕ

abbrev pub spans : List ℕ → List ℕ → ℕ → Spans
spans positions sizes count = record { positions = positions; sizes = sizes; count = count }

pub record Lent : Type 0 where
  pub positions : List ℕ
  pub sizes : List ℕ
  pub count : ℕ
  pub marks : List ℕ
  pub mark_count : ℕ

abbrev pub lent : List ℕ → List ℕ → ℕ → List ℕ → ℕ → Lent
lent positions sizes count marks mark_count =
    record { positions = positions; sizes = sizes; count = count; marks = marks; mark_count = mark_count }

abbrev pub spans_of : Lent → Spans
spans_of a = spans a.positions a.sizes a.count

-- ---- what is held

-- the intervals of two lists, one by one
unfoldable pub zipped : List ℕ → List ℕ → List Entry
zipped [] sizes = []
zipped (p ∷ positions) [] = []
zipped (p ∷ positions) (s ∷ sizes) = interval p s ∷ zipped positions sizes

-- the stored intervals are the first `count`
abbrev pub held_in : Spans → List Entry
held_in a = zipped (take a.count a.positions) (take a.count a.sizes)

abbrev pub held : Lent → List Entry
held a = held_in (spans_of a)

-- and the marks the first of theirs
abbrev pub held_marks : Lent → List ℕ
held_marks a = take a.mark_count a.marks

abbrev pub state_in : Lent → State
state_in a = holding (held a) (held_marks a)

-- Intervals that 15 has nothing to say of. (That the arrays have 512 places is their type's to say.)
pub record Intact (a : Spans) : Type 0 where
  pub few : a.count ≤ max_stored
  pub wide : length a.positions ≡ max_stored
  pub long : length a.sizes ≡ max_stored
  pub faultless : first_fault 0 (held_in a) ≡ length (held_in a)

-- A store that 15 has nothing to say of.
pub record Sound (a : Lent) : Type 0 where
  pub few : a.count ≤ max_stored
  pub wide : length a.positions ≡ max_stored
  pub long : length a.sizes ≡ max_stored
  pub faultless : first_fault 0 (held a) ≡ length (held a)
  pub few_marks : a.mark_count ≤ max_stored
  pub broad : length a.marks ≡ max_stored
  pub orderly : first_mark_fault (held a) 0 (held_marks a) ≡ length (held_marks a)

-- ---- what is left

-- "Entries past the count stay.": a list with others at its front
abbrev pub laid : List ℕ → List ℕ → List ℕ
laid front list = front ++ drop (length front) list

abbrev pub starts : List Entry → List ℕ
starts l = map (λ (e : Entry). e.position) l

abbrev pub lengths : List Entry → List ℕ
lengths l = map (λ (e : Entry). e.size) l

-- the three arrays with a state laid into them: "Marks past their count stay."
abbrev pub laid_into : Lent → State → Lent
laid_into a s =
    record {
      positions = laid (starts s.intervals) a.positions;
      sizes = laid (lengths s.intervals) a.sizes;
      count = length s.intervals;
      marks = laid s.marks a.marks;
      mark_count = length s.marks;
    }

-- "Each refusal .. changes nothing lent."
abbrev pub leaving : {X : Type 0} → Verdict → X → X → X
leaving Accepted new old = new
leaving (Err why) new old = old

-- one of the arrays with a number put in at a place of the first `count`
abbrev pub put_in : List ℕ → ℕ → ℕ → ℕ → List ℕ
put_in list count place number = put_at place number (take count list) ++ drop (count + 1) list

-- an answer with both counts; a refusal hands back those that were given
abbrev pub answered_with : Verdict → ℕ → ℕ → Offered
answered_with verdict count marks = record { verdict = verdict; count = count; marks = marks }

abbrev pub refused_with : ℕ → ℕ → Refusal → Offered
refused_with count marks why = answered_with (Err why) count marks

-- ---- the two calls

-- An offer within the limits, made for a node, to a sound store: the answer, as enum and in figures, and what is lent afterwards.
pub record Offers (a : Lent) (e : Entry) (node : ℕ) (v : Verdict) (b : Lent) : Type 0 where
  pub verdict : v ≡ answer (state_in a) e node
  pub told : told_verdict v ≡ figures (state_in a) e node
  pub left : b ≡ leaving v (laid_into a (after (state_in a) e)) a

-- "A store call tries 15, 4, 12, 13." "15 the first entry at fault, 512 for the count": first the counts, 512 for either, then the first interval at
-- fault, then the first mark at fault. What is given for 15 at a place, for 4, and otherwise.
unfoldable pub checks : {X : Type 0} → Lent → Entry → (ℕ → X) → X → X → X
checks a e bad malformed otherwise =
    pick (ltb max_stored a.count || ltb max_stored a.mark_count) (bad max_stored)
    (pick (ltb (first_fault 0 (held a)) (length (held a))) (bad (first_fault 0 (held a)))
    (pick (ltb (first_mark_fault (held a) 0 (held_marks a)) (length (held_marks a))) (bad (first_mark_fault (held a) 0 (held_marks a)))
    (pick (past_limits e) malformed otherwise)))

abbrev pub call_answer : Lent → Entry → Verdict
call_answer a e = checks a e (λ (entry : ℕ). Err (BadStore entry)) (Err (Malformed 0)) (answer (state_in a) e 0)

abbrev pub call_figures : Lent → Entry → Told Nothing
call_figures a e = checks a e (λ (entry : ℕ). refuses 15 (One entry)) (refuses 4 (One 0)) (figures (state_in a) e 0)

-- An offer to any store.
pub record Calls (a : Lent) (e : Entry) (v : Verdict) (c : Lent) : Type 0 where
  pub verdict : v ≡ call_answer a e
  pub told : told_verdict v ≡ call_figures a e
  pub left : c ≡ leaving v (laid_into a (after (state_in a) e)) a
