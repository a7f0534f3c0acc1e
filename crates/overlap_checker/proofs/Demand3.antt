-- The store after any list of offers, from one that holds nothing: when a further offer is refused, said with bits, whom 12 names, and what is
-- stored. These are theorems about the folds of specs/Folds.antt; the build is such a fold, and so are calls of `check_and_insert`
-- (specs/Demand3Calls.antt).
use Rattle.std.specs.Prelude.{◌≡◌, ◌↔◌, ◌⊎◌, true, false, ℕ, ◌≤◌, ◌<◌, length}
use Rattle.std.proofs.Common.{sym, ap, ◌∙◌, subst, inl, inr, ⊎_elim, true≢false, arith}
use mathlib.Core.List.{List, Permᴰ}
use Rattle.prelude.specs.Limits.{max_stored}
use Rattle.prelude.specs.Told.{refuses, told_verdict}
use Rattle.prelude.specs.declared.Place.TheVariants.{One, Two}
use Rattle.overlap_checker.specs.declared.Entry.{Entry}
use Rattle.overlap_checker.specs.Interval.{StrictlyInside}
use Rattle.overlap_checker.specs.Stored.{Proper}
use Rattle.overlap_checker.specs.Naming.{Named}
use Rattle.overlap_checker.specs.Offers.{clashes_any, lacks_room}
use Rattle.overlap_checker.specs.Marks.{crosses_any, ProperMarks}
use Rattle.overlap_checker.specs.State.{State, empty_state, meets, named_in, answer}
use Rattle.overlap_checker.specs.Folds.{state_after, accepted, nonzero, empties, AllWithin, SharesBitWith, CoversMark, InsideOf, RefusedBy}
use Rattle.overlap_checker.specs.Laws.Folds.{HasInside}
use Rattle.overlap_checker.specs.Laws.Ascending.{told, lt-or-le}
use Rattle.overlap_checker.specs.Laws.MarkLaws.{cross-found, cross-of, crosses-none, resting-rising, resting-proper}
use Rattle.overlap_checker.specs.Theorems.Answers.{clear_apart, apart-clear, clash-hits, cross-hits, hit-either, three_ways, answer-overlaps, answer-full}
use Rattle.overlap_checker.specs.Theorems.Answers.{answer-passes, named-interval, named-mark}
use Rattle.overlap_checker.specs.Laws.Answers.{room-below, no_room, mark-room, no-mark-room}
use Rattle.overlap_checker.proofs.GoingLaws.{Fits, fits-empty, fits-folded}
use Rattle.overlap_checker.specs.Laws.Faults.{same_number, ascending-proper}
use Rattle.overlap_checker.proofs.WhatIsStored as what
use Rattle.overlap_checker.specs.Laws.WhoIsNamed.{named-by}
use Rattle.overlap_checker.proofs.Demand3Laws.{clash-inside, clash-shares, few-after}

module _ (s : State) (e : Entry) (node : ℕ) where
  -- 12 is to meet something
  overlap-is-hit : RefusedBy 12 (answer s e node) ↔ (meets s e ≡ true)
  overlap-is-hit = (
    (λ r. three_ways s e (λ h. h)
        (λ h l. let z : 13 ≡ 12 = same_number (answer s e node) (ap told_verdict (answer-full s e node h l)) r in absurd (omega arith))
        (λ h l. let z : 0 ≡ 12 = same_number (answer s e node) (ap told_verdict (answer-passes s e node h l)) r in absurd (omega arith))),
    (λ h. (Two (named_in s e).position (named_in s e).size, ap told_verdict (answer-overlaps s e node h))),
  )

  -- 13 is to meet nothing and to find no room
  full_is : RefusedBy 13 (answer s e node) ↔ ((meets s e ≡ false) × (lacks_room (length s.intervals) (length s.marks) e.size ≡ true))
  full_is = (
    (λ r. three_ways s e
        (λ h. let z : 12 ≡ 13 = same_number (answer s e node) (ap told_verdict (answer-overlaps s e node h)) r in absurd (omega arith))
        (λ h l. (h, l))
        (λ h l. let z : 0 ≡ 13 = same_number (answer s e node) (ap told_verdict (answer-passes s e node h l)) r in absurd (omega arith))),
    (λ h. (One node, ap told_verdict (answer-full s e node h.0 h.1))),
  )

  -- to meet nothing, said with bits and marks
  meets-nothing : {X : Type 0} → (clashes_any e s.intervals ≡ true) ↔ X → (X → ⊥) → (HasInside e s.marks → ⊥) → meets s e ≡ false
  meets-nothing same none bare =
      apart-clear s e
      (⊎_elim (λ hit. absurd (none (same.0 hit))) (λ out. out) (told (clashes_any e s.intervals)))
      (⊎_elim (λ hit. absurd (bare (cross-found e s.marks hit))) (λ out. out) (told (crosses_any e s.marks)))

  -- A nonzero offer is refused 12 exactly when some bit belongs to it and to a stored interval, or a mark is strictly inside it.
  pub overlap-offered : 0 < e.size → RefusedBy 12 (answer s e node) ↔ (SharesBitWith e s.intervals ⊎ HasInside e s.marks)
  overlap-offered n =
      let (to, from) = overlap-is-hit in
      let (share, clash) = clash-shares e s.intervals n in (
        (λ r. ⊎_elim (λ c. inl (share c)) (λ c. inr (cross-found e s.marks c)) (hit-either s e (to r))),
        (λ w. ⊎_elim (λ b. from (clash-hits s e (clash b))) (λ m. from (cross-hits s e (cross-of e s.marks m.0 m.1 m.2))) w),
      )

  -- It is refused 13 exactly when 512 intervals are stored, no bit of it belongs to one, and no mark is strictly inside it.
  pub full-offered : length s.intervals ≤ max_stored → 0 < e.size
      → RefusedBy 13 (answer s e node)
      ↔ ((length s.intervals ≡ max_stored) × (SharesBitWith e s.intervals → ⊥) × (HasInside e s.marks → ⊥))
  full-offered few n =
      let (to, from) = full_is in
      let (share, clash) = clash-shares e s.intervals n in (
        (λ r. let h = to r in
            let apart = clear_apart s e h.0 in (
              many h.1,
              (λ w. true≢false (sym (clash w) ∙ apart.0)),
              (λ m. true≢false (sym (cross-of e s.marks m.0 m.1 m.2) ∙ apart.1)),
            )),
        (λ h. from
            (meets-nothing (share, clash) h.1 h.2, no_room (length s.intervals) (length s.marks) e.size n (omega (arith, h.0)))),
      )
    where
      many : lacks_room (length s.intervals) (length s.marks) e.size ≡ true → length s.intervals ≡ max_stored
      many l =
          ⊎_elim (λ room. absurd (true≢false (sym l ∙ room-below (length s.intervals) (length s.marks) e.size n room)))
          (λ much. omega arith)
          (lt-or-le (length s.intervals) max_stored)

  -- 13 has the node as its place.
  pub full-place : RefusedBy 13 (answer s e node) → told_verdict (answer s e node) ≡ refuses 13 (One node)
  full-place r = let h = full_is.0 r in ap told_verdict (answer-full s e node h.0 h.1)

  -- A mark is refused 12 exactly when it is strictly inside a stored interval.
  pub empty-offered : e.size ≡ 0 → RefusedBy 12 (answer s e node) ↔ InsideOf e.position s.intervals
  empty-offered z =
      let (to, from) = overlap-is-hit in
      let (inside, clash) = clash-inside e s.intervals z in (
        (λ r. ⊎_elim inside (λ c. absurd (true≢false (sym c ∙ crosses-none e s.marks z))) (hit-either s e (to r))),
        (λ w. from (clash-hits s e (clash w))),
      )

  -- It is refused 13 exactly when it is not and 512 marks are kept.
  pub mark-full-offered : length s.marks ≤ max_stored → e.size ≡ 0
      → RefusedBy 13 (answer s e node) ↔ ((length s.marks ≡ max_stored) × (InsideOf e.position s.intervals → ⊥))
  mark-full-offered few z =
      let (to, from) = full_is in
      let (inside, clash) = clash-inside e s.intervals z in (
        (λ r. let h = to r in (many h.1, (λ w. true≢false (sym (clash w) ∙ (clear_apart s e h.0).0)))),
        (λ h. from (
          meets-nothing (inside, clash) h.1
              (λ m. true≢false (sym (cross-of e s.marks m.0 m.1 m.2) ∙ crosses-none e s.marks z)),
          no-mark-room (length s.intervals) (length s.marks) e.size z (omega (arith, h.0)),
        )),
      )
    where
      many : lacks_room (length s.intervals) (length s.marks) e.size ≡ true → length s.marks ≡ max_stored
      many l =
          ⊎_elim (λ room. absurd (true≢false (sym l ∙ mark-room (length s.intervals) (length s.marks) e.size z room)))
          (λ much. omega arith)
          (lt-or-le (length s.marks) max_stored)

  -- An offer is refused with no other number.
  pub only_two : (number : ℕ) → 0 < number → RefusedBy number (answer s e node) → (number ≡ 12) ⊎ (number ≡ 13)
  only_two number some r =
      three_ways s e
      (λ h. inl (sym (same_number (answer s e node) (ap told_verdict (answer-overlaps s e node h)) r)))
      (λ h l. inr (sym (same_number (answer s e node) (ap told_verdict (answer-full s e node h l)) r)))
      (λ h l. let none : 0 ≡ number = same_number (answer s e node) (ap told_verdict (answer-passes s e node h l)) r in absurd (omega arith))

  -- 12 names what the rules say: a stored interval that clashes with the offer, or else the lowest mark strictly inside it.
  pub overlap-names : Fits s → RefusedBy 12 (answer s e node)
      → (f : Entry) × (told_verdict (answer s e node) ≡ refuses 12 (Two f.position f.size)) × Named s e f
  overlap-names fits r =
      let hit = overlap-is-hit.0 r in (
        named_in s e,
        ap told_verdict (answer-overlaps s e node hit),
        named-by s e (named_in s e) fits.up (resting-rising s.intervals 0 s.marks fits.rests) (named-interval s e) (named-mark s e) hit,
      )

module _ (es : List Entry) where
  abbrev now : State
  now = state_after empty_state es

  -- What is stored is the accepted offers of nonzero size, in some order; the marks are the positions of those of size 0, each, in some order.
  pub stored-is-accepted : Permᴰ (state_after empty_state es).intervals (nonzero (accepted empty_state es))
  stored-is-accepted = what.stored-is-accepted es

  pub marks-are-accepted : Permᴰ (state_after empty_state es).marks (empties (accepted empty_state es))
  marks-are-accepted = what.marks-are-accepted es

  -- The intervals ascend, each within the limits and not empty, no two sharing a bit.
  pub stored-proper : AllWithin es → Proper (state_after empty_state es).intervals
  stored-proper all = ascending-proper now.intervals (fits-folded empty_state es all fits-empty).up

  -- The marks are in order, each within the limit, none strictly inside a stored interval.
  pub marks-proper : AllWithin es → ProperMarks (state_after empty_state es).intervals (state_after empty_state es).marks
  marks-proper all = resting-proper now.intervals now.marks (fits-folded empty_state es all fits-empty).rests

  pub stored-few : length (state_after empty_state es).intervals ≤ max_stored
  stored-few = (few-after empty_state es (omega arith, omega arith)).0

  pub marks-few : length (state_after empty_state es).marks ≤ max_stored
  marks-few = (few-after empty_state es (omega arith, omega arith)).1

  module _ (e : Entry) where
    -- a bit shared with a stored interval is one shared with an accepted offer; a mark is an accepted offer of size 0
    bits : SharesBitWith e now.intervals ↔ SharesBitWith e (accepted empty_state es)
    bits = (
      (λ w. (w.0, w.1, what.stored-accepted es w.0 w.2, w.3, w.4)),
      (λ w. (w.0, w.1, what.accepted-stored es w.0 (omega (arith, w.4)) w.2, w.3, w.4)),
    )

    marks : HasInside e now.marks ↔ CoversMark e (accepted empty_state es)
    marks = (
      (λ w. let r = what.mark-accepted es w.0 w.1 in
          (r.0, r.1, r.2, subst (λ (m : ℕ). StrictlyInside m e) (sym r.3) w.2)),
      (λ w. (w.0.position, what.accepted-mark es w.0 w.2 w.1, w.3)),
    )

  module _ (e : Entry) (node : ℕ) where
    -- A further nonzero offer is refused 12 exactly when some bit belongs both to it and to an earlier accepted one, "or when an earlier accepted
    -- mark is strictly inside it".
    pub overlap-exactly : 0 < e.size
        → RefusedBy 12 (answer (state_after empty_state es) e node)
        ↔ (SharesBitWith e (accepted empty_state es) ⊎ CoversMark e (accepted empty_state es))
    overlap-exactly n =
        let (to, from) = overlap-offered now e node n in (
          (λ r. ⊎_elim (λ b. inl ((bits e).0 b)) (λ m. inr ((marks e).0 m)) (to r)),
          (λ w. from (⊎_elim (λ b. inl ((bits e).1 b)) (λ m. inr ((marks e).1 m)) w)),
        )

    -- It is refused 13 exactly when 512 are stored, no bit belongs both to it and to an earlier accepted one, "and no accepted mark is strictly
    -- inside it".
    pub full-exactly : 0 < e.size
        → RefusedBy 13 (answer (state_after empty_state es) e node)
        ↔ ((length (state_after empty_state es).intervals ≡ max_stored)
        × (SharesBitWith e (accepted empty_state es) → ⊥)
        × (CoversMark e (accepted empty_state es) → ⊥))
    full-exactly n =
        let (to, from) = full-offered now e node stored-few n in (
          (λ r. let h = to r in (h.0, (λ w. h.1 ((bits e).1 w)), (λ w. h.2 ((marks e).1 w)))),
          (λ h. from (h.0, (λ w. h.1 ((bits e).0 w)), (λ w. h.2 ((marks e).0 w)))),
        )

    -- A mark is refused 12 exactly when it is strictly inside a stored interval, 13 exactly when it is not and 512 marks are kept.
    pub empty-exactly : e.size ≡ 0
        → RefusedBy 12 (answer (state_after empty_state es) e node) ↔ InsideOf e.position (state_after empty_state es).intervals
    empty-exactly z = empty-offered now e node z

    pub mark-full-exactly : e.size ≡ 0
        → RefusedBy 13 (answer (state_after empty_state es) e node)
        ↔ ((length (state_after empty_state es).marks ≡ max_stored) × (InsideOf e.position (state_after empty_state es).intervals → ⊥))
    mark-full-exactly z = mark-full-offered now e node marks-few z
