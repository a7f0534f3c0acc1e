-- Refusal 12 names a stored interval that clashes with the offer: the lowest at or above it, or else the one below; where none clashes, the
-- lowest mark strictly inside it.
use Rattle.std.specs.Prelude.{◌≡◌, true}
use Rattle.overlap_checker.specs.declared.Entry.{Entry}
use Rattle.overlap_checker.specs.Naming.{Named}
use Rattle.overlap_checker.specs.Ascending.{Ascending}
use Rattle.overlap_checker.specs.Offers.{clashes_any, named}
use Rattle.overlap_checker.specs.State.{State, named_in, meets}
use Rattle.overlap_checker.specs.Rising.{Rising}
use Rattle.overlap_checker.specs.Theorems.Answers.{named-mark}
use Rattle.overlap_checker.specs.Laws.WhoIsNamed.{named-by}

-- Where the offer meets something, what 12 names is what the rules say.
pub named-as : (s : State) (e : Entry) → Ascending 0 s.intervals → Rising 0 s.marks → meets s e ≡ true → Named s e (named_in s e)
unfolding named_in
named-as s e up rise hit = named-by s e (named_in s e) up rise interval-named (named-mark s e) hit
  where
    interval-named : clashes_any e s.intervals ≡ true → named_in s e ≡ named s.intervals e
    interval-named h = rw h
