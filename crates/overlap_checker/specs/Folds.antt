-- Offers made one after another, the first one first: the answers, what is held afterwards, and which offers were accepted.
use Rattle.std.specs.Prelude.{◌≡◌, ℕ, ltb}
use mathlib.Core.List.{List, [], ◌∷◌, Memᴰ}
use Rattle.prelude.specs.Pick.{pick}
use Rattle.prelude.specs.Told.{refuses, told_verdict}
use Rattle.prelude.specs.declared.Place.{Place}
use Rattle.prelude.specs.Verdict.{Verdict}
use Rattle.overlap_checker.specs.declared.Entry.{Entry}
use Rattle.overlap_checker.specs.Interval.{Covers, StrictlyInside, Within}
use Rattle.overlap_checker.specs.Lent.{Lent, Calls}
use Rattle.overlap_checker.specs.State.{State, answer, after, is_accepted}

-- what is held after a list of offers
unfoldable pub state_after : State → List Entry → State
state_after s [] = s
state_after s (e ∷ es) = state_after (after s e) es

-- what each of them is answered
unfoldable pub answers : State → List Entry → List (Verdict)
answers s [] = []
answers s (e ∷ es) = answer s e 0 ∷ answers (after s e) es

-- those of a list of offers that were accepted, by their answers
unfoldable pub accepted_by : List Entry → List (Verdict) → List Entry
accepted_by [] vs = []
accepted_by (e ∷ es) [] = []
accepted_by (e ∷ es) (v ∷ vs) = pick (is_accepted v) (e ∷ accepted_by es vs) (accepted_by es vs)

abbrev pub accepted : State → List Entry → List Entry
accepted s es = accepted_by es (answers s es)

-- those of nonzero size
unfoldable pub nonzero : List Entry → List Entry
nonzero [] = []
nonzero (e ∷ es) = pick (ltb 0 e.size) (e ∷ nonzero es) (nonzero es)

-- the positions of those of size 0
unfoldable pub empties : List Entry → List ℕ
empties [] = []
empties (e ∷ es) = pick (ltb 0 e.size) (empties es) (e.position ∷ empties es)

-- every offer of the list is within the limits
abbrev pub AllWithin : List Entry → Type 0
AllWithin es = (e : Entry) → Memᴰ e es → Within e

-- some bit belongs both to an interval and to one of the list
abbrev pub SharesBitWith : Entry → List Entry → Type 0
SharesBitWith e fs = (f : Entry) × (bit : ℕ) × Memᴰ f fs × Covers e bit × Covers f bit

-- one of the list is a mark, an offer of size 0, strictly inside an interval
abbrev pub CoversMark : Entry → List Entry → Type 0
CoversMark e fs = (f : Entry) × Memᴰ f fs × (f.size ≡ 0) × StrictlyInside f.position e

-- a position is strictly inside an interval of the list
abbrev pub InsideOf : ℕ → List Entry → Type 0
InsideOf m l = (f : Entry) × Memᴰ f l × StrictlyInside m f

-- refused with a number of document 01's table
abbrev pub RefusedBy : ℕ → Verdict → Type 0
RefusedBy number v = (place : Place) × (told_verdict v ≡ refuses number place)

-- Calls of `check_and_insert` one after another, each on what the one before it left: from a to b, the offers and their answers.
abbrev pub CallsInTurn : Lent → List Entry → List (Verdict) → Lent → Type 0
CallsInTurn a [] [] b = b ≡ a
CallsInTurn a [] (v ∷ vs) b = ⊥
CallsInTurn a (e ∷ es) [] b = ⊥
CallsInTurn a (e ∷ es) (v ∷ vs) b = (c : Lent) × Calls a e v c × CallsInTurn c es vs b
