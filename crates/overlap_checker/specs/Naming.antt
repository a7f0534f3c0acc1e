-- What refusal 12 names, said of all stored intervals: "the lowest stored start at or above the offer if those two share a bit, otherwise the
-- one below"; and of all marks: "naming the lowest such mark unless an interval is to be named".
use Rattle.std.specs.Prelude.{◌≡◌, ◌⊎◌, true, false, ℕ, ◌≤◌, ◌<◌}
use mathlib.Core.List.{List, Memᴰ}
use Rattle.overlap_checker.specs.declared.Entry.{Entry}
use Rattle.overlap_checker.specs.State.{State}
use Rattle.overlap_checker.specs.Interval.{StrictlyInside, clashes}

-- f has the lowest start at or above the offer
pub record LowestAbove (l : List Entry) (e f : Entry) : Type 0 where
  pub starts : e.position ≤ f.position
  pub lowest : (g : Entry) → Memᴰ g l → e.position ≤ g.position → f.position ≤ g.position

-- f is the one below, and none at or above the offer clashes with it
pub record HighestBelow (l : List Entry) (e f : Entry) : Type 0 where
  pub starts : f.position < e.position
  pub highest : (g : Entry) → Memᴰ g l → g.position < e.position → g.position ≤ f.position
  pub otherwise : (g : Entry) → Memᴰ g l → e.position ≤ g.position → clashes e g ≡ false

-- the interval named is stored, clashes with the offer, and is the one that the rule says
pub record IsNamed (l : List Entry) (e f : Entry) : Type 0 where
  pub member : Memᴰ f l
  pub clash : clashes e f ≡ true
  pub rule : LowestAbove l e f ⊎ HighestBelow l e f

-- the mark named: no interval is to be named, it is kept and strictly inside the offer, and none lower is
pub record IsNamedMark (l : List Entry) (ms : List ℕ) (e f : Entry) : Type 0 where
  pub clear : (g : Entry) → Memᴰ g l → clashes e g ≡ false
  pub member : Memᴰ f.position ms
  pub empty : f.size ≡ 0
  pub inside : StrictlyInside f.position e
  pub lowest : (m : ℕ) → Memᴰ m ms → StrictlyInside m e → f.position ≤ m

abbrev pub Named : State → Entry → Entry → Type 0
Named s e f = IsNamed s.intervals e f ⊎ IsNamedMark s.intervals s.marks e f
