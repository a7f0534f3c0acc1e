-- Demand 3, of calls of `check_and_insert` one after another, from any three arrays of 512 and counts of 0, whatever the arrays hold: each
-- call on what the one before it left, each answer as its contract has it.
use Rattle.std.specs.Prelude.{◌≡◌, ◌↔◌, ◌⊎◌, ℕ, ◌<◌, length}
use Rattle.std.proofs.Common.{ap, ◌∙◌}
use mathlib.Core.List.{List, Permᴰ}
use Rattle.prelude.specs.Limits.{max_stored}
use Rattle.prelude.specs.Verdict.{Verdict}
use Rattle.overlap_checker.specs.declared.Entry.{Entry}
use Rattle.overlap_checker.specs.Interval.{Within}
use Rattle.overlap_checker.specs.Stored.{Proper}
use Rattle.overlap_checker.specs.Marks.{ProperMarks}
use Rattle.overlap_checker.specs.State.{State, empty_state, answer}
use Rattle.overlap_checker.specs.Lent.{Lent, held, held_marks, state_in, Sound, laid_into, Calls}
use Rattle.overlap_checker.specs.Folds.{state_after, answers, accepted_by, empties, AllWithin, SharesBitWith, CoversMark, InsideOf, RefusedBy}
use Rattle.overlap_checker.specs.Folds.{CallsInTurn}
use Rattle.overlap_checker.specs.Laws.Laid.{state-laid}
use Rattle.overlap_checker.proofs.GoingLaws.{state-none}
use Rattle.overlap_checker.proofs.Going.{sound_none}
use Rattle.overlap_checker.specs.Theorems.Checks.{calls-offers}
use Rattle.overlap_checker.proofs.Demand3 as fold
use Rattle.overlap_checker.proofs.Demand3CallsLaws.{Turned, turned}

-- ---- demand 3

module _ (a : Lent) (wide : length a.positions ≡ max_stored) (long : length a.sizes ≡ max_stored) (broad : length a.marks ≡ max_stored)
    (none : a.count ≡ 0) (bare : a.mark_count ≡ 0)
    (es : List Entry) (vs : List (Verdict)) (b : Lent) (all : AllWithin es) (run : CallsInTurn a es vs b) where
  went : Turned a es vs b
  went = turned a es vs b (sound_none a wide long broad none bare) all run

  -- The answers and what is lent afterwards are those of the fold.
  pub answers-are : vs ≡ answers empty_state es
  answers-are = went.answered ∙ ap (λ (t : State). answers t es) (state-none a none bare)

  pub lent_is : b ≡ laid_into a (state_after empty_state es)
  lent_is = went.left ∙ ap (λ (t : State). laid_into a (state_after t es)) (state-none a none bare)

  pub state-is : state_in b ≡ state_after empty_state es
  state-is = ap state_in lent_is ∙ state-laid a (state_after empty_state es)

  pub held-is : held b ≡ (state_after empty_state es).intervals
  held-is = ap (λ (s : State). s.intervals) state-is

  pub marks-is : held_marks b ≡ (state_after empty_state es).marks
  marks-is = ap (λ (s : State). s.marks) state-is

  -- The store is sound after every call.
  pub sound-in-turn : Sound b
  sound-in-turn = went.sound

  pub stored-proper : Proper (held b)
  stored-proper = rw held-is (fold.stored-proper es all)

  pub marks-are-accepted : Permᴰ (held_marks b) (empties (accepted_by es vs))
  marks-are-accepted = rw (marks-is, answers-are) (fold.marks-are-accepted es)

  pub marks-proper : ProperMarks (held b) (held_marks b)
  marks-proper = rw (held-is, marks-is) (fold.marks-proper es all)

  -- a further call
  module _ (e : Entry) (within : Within e) (v : Verdict) (c : Lent) (call : Calls b e v c) where
    verdict-is : v ≡ answer (state_after empty_state es) e 0
    verdict-is = (calls-offers b e v c sound-in-turn within call).verdict ∙ ap (λ (s : State). answer s e 0) state-is

    -- It is refused 12, a nonzero offer, exactly when some bit belongs both to it and to an earlier accepted offer, "or when an earlier accepted mark is
    -- strictly inside it".
    pub overlap-exactly : 0 < e.size → RefusedBy 12 v ↔ (SharesBitWith e (accepted_by es vs) ⊎ CoversMark e (accepted_by es vs))
    overlap-exactly n = rw (verdict-is, answers-are) (fold.overlap-exactly es e 0 n)

    -- 13 exactly when 512 are stored, no bit belongs both to it and to an earlier accepted offer, "and no accepted mark is strictly inside it".
    pub full-exactly : 0 < e.size
        → RefusedBy 13 v ↔ ((b.count ≡ max_stored) × (SharesBitWith e (accepted_by es vs) → ⊥) × (CoversMark e (accepted_by es vs) → ⊥))
    full-exactly n = rw (verdict-is, answers-are, lent_is) (fold.full-exactly es e 0 n)

    -- A mark is refused 12 exactly when it is strictly inside a stored interval, 13 exactly when it is not and 512 marks are kept.
    pub empty-exactly : e.size ≡ 0 → RefusedBy 12 v ↔ InsideOf e.position (held b)
    empty-exactly z = rw (verdict-is, held-is) (fold.empty-exactly es e 0 z)

    pub mark-full-exactly : e.size ≡ 0 → RefusedBy 13 v ↔ ((b.mark_count ≡ max_stored) × (InsideOf e.position (held b) → ⊥))
    mark-full-exactly z = rw (verdict-is, held-is, ap (λ (x : Lent). x.mark_count) lent_is) (fold.mark-full-exactly es e 0 z)

    -- No other number comes.
    pub only_two : (number : ℕ) → 0 < number → RefusedBy number v → (number ≡ 12) ⊎ (number ≡ 13)
    only_two number some r = fold.only_two (state_after empty_state es) e 0 number some (rw verdict-is at r)
