-- Theorems about what Reordered defines.
use Rattle.std.specs.Prelude.{◌≡◌}
use Rattle.std.proofs.Common.{sym, ap, ◌∙◌, subst}
use Rattle.prelude.specs.Verdict.{Verdict}
use mathlib.Core.List.{List, Permᴰ}
use Rattle.overlap_checker.specs.declared.Entry.{Entry}
use Rattle.overlap_checker.specs.State.{State, empty_state}
use Rattle.overlap_checker.specs.Lent.{Lent, held, held_marks, state_in, laid_into}
use Rattle.overlap_checker.specs.Folds.{state_after, answers, AllWithin, CallsInTurn}
use Rattle.overlap_checker.proofs.GoingLaws.{fits-empty}
use Rattle.overlap_checker.proofs.ReorderedLaws.{alike, holds, left, reordered-within, said}
use Rattle.overlap_checker.specs.Reordered.{AllAccepted, HoldsNothing}

-- ---- Ticket 11, of offers made one after another

-- "if a list of offers within the limits is accepted as a whole from an empty store, then every reordering of it is accepted as a whole too, with the
-- same intervals and marks stored"
module _ (xs ys : List Entry) (order : Permᴰ xs ys) (all : AllWithin xs) (whole : AllAccepted (answers empty_state xs)) where
  pub reordered-accepted : AllAccepted (answers empty_state ys)
  reordered-accepted = (alike order empty_state all fits-empty whole).whole

  pub reordered-same-state : state_after empty_state ys ≡ state_after empty_state xs
  reordered-same-state = (alike order empty_state all fits-empty whole).same

-- Calls xs from a to b, all answered yes; calls ys, a reordering, from c to d.
module _ (xs ys : List Entry) (order : Permᴰ xs ys) (all : AllWithin xs)
    (a : Lent) (none : HoldsNothing a) (vs : List (Verdict)) (b : Lent) (run : CallsInTurn a xs vs b) (whole : AllAccepted vs)
    (c : Lent) (bare : HoldsNothing c) (ws : List (Verdict)) (d : Lent) (again : CallsInTurn c ys ws d) where
  first : AllAccepted (answers empty_state xs)
  first = subst AllAccepted (said a none xs vs b all run) whole

  then : AllWithin ys
  then = reordered-within order all

  -- The calls in the other order are all answered yes.
  pub reordered-calls-accepted : AllAccepted ws
  reordered-calls-accepted = subst AllAccepted (sym (said c bare ys ws d then again)) (reordered-accepted xs ys order all first)

  same-state : state_in d ≡ state_in b
  same-state = holds c bare ys ws d then again ∙ reordered-same-state xs ys order all first ∙ sym (holds a none xs vs b all run)

  -- The same intervals are held afterwards, and the same marks.
  pub reordered-calls-same-intervals : held d ≡ held b
  reordered-calls-same-intervals = ap (λ (s : State). s.intervals) same-state

  pub reordered-calls-same-marks : held_marks d ≡ held_marks b
  reordered-calls-same-marks = ap (λ (s : State). s.marks) same-state

  -- From the same arrays, everything lent is the same afterwards: the counts, and the arrays to the last entry.
  pub reordered-calls-same-lent : c ≡ a → d ≡ b
  reordered-calls-same-lent same =
      left c bare ys ws d then again
      ∙ ap (λ (s : State). laid_into c s) (reordered-same-state xs ys order all first)
      ∙ ap (λ (x : Lent). laid_into x (state_after empty_state xs)) same
      ∙ sym (left a none xs vs b all run)
