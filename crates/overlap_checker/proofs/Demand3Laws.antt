-- Laws that Theorems/Demand3 rests on.
use Rattle.std.specs.Prelude.{◌≡◌, ◌↔◌, true, List, [], ◌∷◌, ◌≤◌, ◌<◌, length}
use Rattle.std.proofs.Common.{arith}
use Rattle.prelude.specs.Limits.{max_stored}
use Rattle.overlap_checker.specs.declared.Entry.{Entry}
use Rattle.overlap_checker.specs.Offers.{clashes_any}
use Rattle.overlap_checker.specs.State.{State, after}
use Rattle.overlap_checker.specs.Folds.{state_after, SharesBitWith, InsideOf}
use Rattle.overlap_checker.specs.Theorems.Bits.{clash-exactly, clash-empty-exactly}
use Rattle.overlap_checker.specs.Laws.Bits.{any_found, any_of}
use Rattle.overlap_checker.proofs.MarkLaws.{length_marked}
use Rattle.overlap_checker.specs.Theorems.Answers.{after-either}
use Rattle.overlap_checker.proofs.GoingLaws.{length_inserted}

-- ---- one offer to any state

pub clash-shares : (e : Entry) (l : List Entry) → 0 < e.size → (clashes_any e l ≡ true) ↔ SharesBitWith e l
clash-shares e l n = (
  (λ h. let (f, m, c) = any_found e l h in
      let (bit, a, b) = (clash-exactly e f n).0 c in
      (f, bit, m, a, b)),
  (λ w. any_of e l w.0 w.2 ((clash-exactly e w.0 n).1 (w.1, w.3, w.4))),
)

-- an offer of size 0 clashes with the intervals that it is strictly inside of
pub clash-inside : (e : Entry) (l : List Entry) → e.size ≡ 0 → (clashes_any e l ≡ true) ↔ InsideOf e.position l
clash-inside e l z = (
  (λ h. let (f, m, c) = any_found e l h in (f, m, (clash-empty-exactly e f z).0 c)),
  (λ w. any_of e l w.0 w.1 ((clash-empty-exactly e w.0 z).1 w.2)),
)

-- ---- after any list of offers, from a store that holds nothing

-- no more than 512 of each, whatever is offered
abbrev pub Few : State → Type 0
Few s = (length s.intervals ≤ max_stored) × (length s.marks ≤ max_stored)

pub few-after : (s : State) (es : List Entry) → Few s → Few (state_after s es)
unfolding state_after
few-after s [] few = few
few-after s (e ∷ es) few =
    few-after (after s e) es
    (after-either s e Few few (λ clear n room. (omega (arith, length_inserted s.intervals e), few.1))
    (λ clear z room. (few.0, omega (arith, length_marked s.marks e.position))))
