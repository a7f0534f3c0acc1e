-- Ticket 11: "if a list of offers within the limits is accepted as a whole from an empty store, then every reordering of it is accepted as a whole too, with
-- the same intervals and marks stored".
use Rattle.std.specs.Prelude.{◌≡◌, refl, true, ℕ, suc, ◌≤◌, ◌<◌, length, get_or, Err}
use Rattle.std.proofs.Common.{sym, ap, ◌∙◌, arith}
use mathlib.Core.List.{List, [], ◌∷◌, Permᴰ, tail}
use Rattle.prelude.specs.Laws.Bools.{either, clash}
use Rattle.prelude.specs.Verdict.{Verdict, Accepted}
use Rattle.overlap_checker.specs.declared.Entry.{Entry}
use Rattle.overlap_checker.specs.Interval.{interval}
use Rattle.overlap_checker.specs.Entries.{entry_at}
use Rattle.overlap_checker.specs.State.{is_accepted}
use Rattle.overlap_checker.specs.Lent.{Lent, held, held_marks, Sound}
use Rattle.overlap_checker.specs.Folds.{accepted_by, CallsInTurn}
use Rattle.overlap_checker.proofs.Reordered as reorder
use Rattle.overlap_checker.specs.Reordered.{AllAccepted, HoldsNothing}
use Rattle.overlap_checker.proofs.ReorderedLaws.{reordered-within}
use Rattle.overlap_checker.proofs.Demand3Calls.{sound-in-turn}
use Rattle.says.specs.Store.{Store, start, size, mark}
use Rattle.meets_store.specs.Calls.{Empty, AllWithin, Calls}
use Rattle.meets_store.specs.Laws.Held.{as_lent, count-is, entry-is, mark-count-is, mark-is}
use Rattle.meets_store.specs.Laws.Turns.{Turned, turned}

-- ---- accepted as a whole

yes : (v : Verdict) → is_accepted v ≡ true → v ≡ Accepted
yes Accepted h = refl
yes (Err why) h = absurd (clash h refl)

accepted-few : (es : List Entry) (vs : List (Verdict)) → length (accepted_by es vs) ≤ length es
unfolding accepted_by
accepted-few [] vs = omega arith
accepted-few (e ∷ es) [] = omega arith
accepted-few (e ∷ es) (v ∷ vs) =
    let rest = accepted-few es vs in
    either (is_accepted v) (λ t. rw t (omega arith)) (λ f. rw f (omega arith))

whole : (a : Lent) (es : List Entry) (vs : List (Verdict)) (b : Lent) → CallsInTurn a es vs b → accepted_by es vs ≡ es → AllAccepted vs
unfolding accepted_by
whole a [] [] b run same = tt
whole a [] (v ∷ vs) b run same = absurd run
whole a (e ∷ es) [] b run same = absurd run
whole a (e ∷ es) (v ∷ vs) b run same =
    either (is_accepted v)
    (λ t. (yes v t, whole run.0 es vs b run.2 (ap tail (let h : e ∷ accepted_by es vs ≡ e ∷ es = rw t at same in h))))
    (λ f. let h : accepted_by es vs ≡ e ∷ es = rw f at same in
    let n : length (accepted_by es vs) ≡ suc (length es) = ap length h in
    absurd (omega (arith, accepted-few es vs)))

all-taken : (a : Lent) (es : List Entry) (vs : List (Verdict)) (b : Lent) → CallsInTurn a es vs b → AllAccepted vs → accepted_by es vs ≡ es
unfolding accepted_by
all-taken a [] vs b run h = refl
all-taken a (e ∷ es) [] b run h = absurd run
all-taken a (e ∷ es) (v ∷ vs) b run h = rw h.0 (ap (λ (l : List Entry). e ∷ l) (all-taken run.0 es vs b run.2 h.1))

holds-nothing : {s : Store} → Empty s → HoldsNothing (as_lent s)
holds-nothing e =
    record { positions = e.arrays.positions; sizes = e.arrays.sizes; marks = e.arrays.marks; count = e.count; mark_count = e.mark_count }

-- Offers `es`, within the limits, all accepted from the empty store s to t; `fs`, the same in another order, made from the empty store u to v.
module _ (es fs : List Entry) (order : Permᴰ es fs) (all : AllWithin es) (s t : Store) (empty : Empty s) (run : Calls s es es t)
    (u v : Store) (bare : Empty u) (taken : List Entry) (again : Calls u fs taken v) where
  one : Turned s es es t
  one = turned empty.arrays run

  two : Turned u fs taken v
  two = turned bare.arrays again

  first : AllAccepted one.verdicts
  first = whole (as_lent s) es one.verdicts (as_lent t) one.run one.same

  -- They are all accepted too,
  pub reordered-accepted : taken ≡ fs
  reordered-accepted =
      sym two.same
      ∙ all-taken (as_lent u) fs two.verdicts (as_lent v) two.run
      (reorder.reordered-calls-accepted es fs order all (as_lent s) (holds-nothing empty) one.verdicts (as_lent t) one.run first
      (as_lent u) (holds-nothing bare) two.verdicts (as_lent v) two.run)

  same-intervals : held (as_lent v) ≡ held (as_lent t)
  same-intervals =
      reorder.reordered-calls-same-intervals es fs order all (as_lent s) (holds-nothing empty) one.verdicts (as_lent t) one.run first
      (as_lent u) (holds-nothing bare) two.verdicts (as_lent v) two.run

  same-marks : held_marks (as_lent v) ≡ held_marks (as_lent t)
  same-marks =
      reorder.reordered-calls-same-marks es fs order all (as_lent s) (holds-nothing empty) one.verdicts (as_lent t) one.run first
      (as_lent u) (holds-nothing bare) two.verdicts (as_lent v) two.run

  sound-t : Sound (as_lent t)
  sound-t =
      sound-in-turn (as_lent s) empty.arrays.positions empty.arrays.sizes empty.arrays.marks empty.count empty.mark_count es one.verdicts
      (as_lent t) all one.run

  sound-v : Sound (as_lent v)
  sound-v =
      sound-in-turn (as_lent u) bare.arrays.positions bare.arrays.sizes bare.arrays.marks bare.count bare.mark_count fs two.verdicts
      (as_lent v) (reordered-within order all) two.run

  same_count : v.count ≡ t.count
  same_count = sym (count-is v two.arrays sound-v.few) ∙ ap length same-intervals ∙ count-is t one.arrays sound-t.few

  same-entry : (i : ℕ) → i < t.count → interval (start v i) (size v i) ≡ interval (start t i) (size t i)
  same-entry i h =
      sym (entry-is v two.arrays sound-v.few i (omega (arith, same_count)))
      ∙ ap (λ (l : List Entry). entry_at l i) same-intervals ∙ entry-is t one.arrays sound-t.few i h

  -- the same intervals are stored,
  pub reordered-intervals : (v.count ≡ t.count) × ((i : ℕ) → i < t.count → (start v i ≡ start t i) × (size v i ≡ size t i))
  reordered-intervals =
      (same_count, (λ i h. (ap (λ (e : Entry). e.position) (same-entry i h), ap (λ (e : Entry). e.size) (same-entry i h))))

  -- the same marks,
  pub reordered-marks : (v.mark_count ≡ t.mark_count) × ((i : ℕ) → i < t.mark_count → mark v i ≡ mark t i)
  reordered-marks =
      let same =
      sym (mark-count-is v two.arrays sound-v.few sound-v.few_marks) ∙ ap length same-marks
      ∙ mark-count-is t one.arrays sound-t.few sound-t.few_marks in (
        same,
        (λ i h. sym (mark-is v two.arrays sound-v.few sound-v.few_marks i (omega (arith, same)))
            ∙ ap (λ (l : List ℕ). get_or l i 0) same-marks ∙ mark-is t one.arrays sound-t.few sound-t.few_marks i h),
      )

  -- and from the same arrays everything lent is the same.
  pub reordered-lent : u ≡ s → v ≡ t
  reordered-lent same =
      ap back
      (reorder.reordered-calls-same-lent es fs order all (as_lent s) (holds-nothing empty) one.verdicts (as_lent t) one.run first
      (as_lent u) (holds-nothing bare) two.verdicts (as_lent v) two.run (ap as_lent same))
    where
      back : Lent → Store
      back a = record { positions = a.positions; sizes = a.sizes; count = a.count; marks = a.marks; mark_count = a.mark_count }
