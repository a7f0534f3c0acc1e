-- Theorems about what RefusedAtNode defines.
use Rattle.std.specs.Prelude.{◌≡◌, refl, true, false, ◌&&◌, ◌⊎◌, ◌↔◌, ℕ, ◌+◌, ◌≤◌, ◌<◌, length, Err}
use Rattle.std.proofs.Common.{sym, ap, ap₂, subst, ◌∙◌, inl, inr, ⊎_elim, arith}
use mathlib.Core.List.{List, Memᴰ}
use Rattle.prelude.specs.Laws.Bools.{both}
use Rattle.prelude.specs.Limits.{max_stored}
use Rattle.prelude.specs.Refusals.{number_of, place_of}
use Rattle.prelude.specs.Told.{refuses, told_verdict}
use Rattle.prelude.specs.declared.Refusal.{Refusal}
use Rattle.prelude.specs.declared.Refusal.TheVariants.{DefaultBank, PastBank, NoOutput}
use Rattle.prelude.specs.declared.Place.{Place}
use Rattle.prelude.specs.declared.Place.TheVariants.{One, Two}
use Rattle.prelude.specs.Verdict.{Verdict, Accepted}
use Rattle.nodes.specs.Kinds.{size_of}
use Rattle.overlap_checker.specs.declared.Entry.{Entry}
use Rattle.overlap_checker.specs.Interval.{interval, StrictlyInside}
use Rattle.overlap_checker.specs.State.{State, empty_state, answer}
use Rattle.overlap_checker.specs.Folds.{state_after, accepted, nonzero, empties, SharesBitWith, CoversMark, InsideOf, RefusedBy}
use Rattle.overlap_checker.specs.Laws.Folds.{HasInside}
use Rattle.overlap_checker.proofs.GoingLaws.{Fits, fits-empty, fits-folded}
use Rattle.overlap_checker.specs.Naming.{Named}
use Rattle.overlap_checker.proofs.WhatIsStored.{stored-accepted, accepted-stored, mark-accepted, accepted-mark}
use Rattle.overlap_checker.proofs.Demand3.{overlap-offered, full-offered, full-place, empty-offered, mark-full-offered, overlap-names}
use Rattle.overlap_checker.proofs.Demand3.{stored-is-accepted, marks-are-accepted, stored-few, marks-few}
use Rattle.build_visits.specs.declared.Visit.{Visit}
use Rattle.build_visits.specs.Visits.{position_of}
use Rattle.build_visits.specs.Items.{is_written}
use Rattle.build_plan.specs.Theorems.Kinds.{written-exactly, offered-exactly, placed-exactly}
use Rattle.build_plan.specs.Placing.{is_placed, is_offered, uses_default, ends_past, lacks_output, offer_of}
use Rattle.build_plan.specs.Placing.{answered}
use Rattle.build_plan.specs.Laws.PlacingLaws.{picked-some, offer-is, placed-accepts}
use Rattle.output.specs.OffersWithin.{OffsetsFit}
use Rattle.output.specs.Theorems.OffersWithin.{offers-within}
use Rattle.output.specs.Calls.{Call, closed_in, program_in, row_in, visit_in, visits_before}
use Rattle.output.proofs.RefusedAtNodeLaws.{cause-there, decided, gave-refused, holds_not, lacks, not-holds, past}
use Rattle.output.proofs.RefusedAtNodeLaws.{perm-length, same-told, store-number, there, uses-default}
use Rattle.output.specs.RefusedAtNode.{Cause, Eleven, Nine, PlacedKind, Reaches, RefusedThere, Ten, eleven, nine, offers_before, store, ten}

module _ (c : Call) (n : ℕ) (r : Reaches c n) where
  abbrev met : Visit
  met = visit_in c n

  placed-kind : is_placed met.node ≡ true ↔ PlacedKind met.node.kind
  placed-kind = placed-exactly met.node

  nine-test : is_placed met.node ≡ true → uses_default (closed_in c) met.bank ≡ true → Nine c.given met
  nine-test p d =
      let h = (uses-default c.given met).0 d in
      record { placed = placed-kind.0 p; default = h.0; closed = h.1 }

  -- past 9: the test says no
  not-nine : is_placed met.node ≡ true → (Nine c.given met → ⊥) → uses_default (closed_in c) met.bank ≡ false
  not-nine p none = decided (uses_default (closed_in c) met.bank) (λ d. absurd (none (nine-test p d))) (λ d. d)

  nine-not : uses_default (closed_in c) met.bank ≡ false → Nine c.given met → ⊥
  nine-not d h = holds_not (uses-default c.given met) d (h.default, h.closed)

  ten-test : is_placed met.node ≡ true → ends_past met.def.size (r.at.position + size_of met.node) ≡ true → Ten met r.at.position
  ten-test p q =
      let h = (past c.given met met.def.size (r.at.position + size_of met.node)).0 q in
      record { placed = placed-kind.0 p; size = h.0; sized = h.1; past = h.2 }

  not-ten : is_placed met.node ≡ true → (Ten met r.at.position → ⊥) → ends_past met.def.size (r.at.position + size_of met.node) ≡ false
  not-ten p none = decided (ends_past met.def.size (r.at.position + size_of met.node)) (λ q. absurd (none (ten-test p q))) (λ q. q)

  ten-not : ends_past met.def.size (r.at.position + size_of met.node) ≡ false → Ten met r.at.position → ⊥
  ten-not q h = holds_not (past c.given met met.def.size (r.at.position + size_of met.node)) q (h.size, h.sized, h.past)

  eleven-exactly : ((is_written met.node && lacks_output met.out) ≡ true) ↔ Eleven met
  eleven-exactly = (
    λ e.
        let (w, l) = both (is_written met.node) (lacks_output met.out) e in
        let k = (written-exactly met.node).0 w in
        record { written = k; nowhere = (lacks c.given met met.def.offset (position_of met)).0 l },
    λ h. rw ((written-exactly met.node).1 h.written, (lacks c.given met met.def.offset (position_of met)).1 h.nowhere),
  )

  -- "9: bank 0 is used while other banks exist", or may not be used alone, by a label, a written item or a reserve.
  pub refused-9-exactly : RefusedThere c n 9 (One n) ↔ Nine c.given (visit_in c n)
  refused-9-exactly = (
    λ t. let (why, cause, number, place) = cause-there c n r 9 (One n) t in from why cause number,
    λ h. there c n r (DefaultBank n) (nine (placed-kind.1 h.placed) ((uses-default c.given met).1 (h.default, h.closed)) refl),
  )
    where
      from : (why : Refusal) → Cause (closed_in c) r.stored (visit_in c n) r.at why → number_of why ≡ 9 → Nine c.given (visit_in c n)
      from why (nine p d e) k = nine-test p d
      from why (ten p d q e) k = absurd (let z = ap number_of e in omega arith)
      from why (eleven p d q w e) k = absurd (let z = ap number_of e in omega arith)
      from why (store p d q w a) k = absurd (let z = store-number r.stored n (offer_of (visit_in c n)) why a in omega arith)

  -- "10: an item ends past its bank's size", where 9 isn't.
  pub refused-10-exactly : RefusedThere c n 10 (One n) ↔ ((Nine c.given (visit_in c n) → ⊥) × Ten (visit_in c n) r.at.position)
  refused-10-exactly = (
    λ t. let (why, cause, number, place) = cause-there c n r 10 (One n) t in from why cause number,
    λ h.
        let t = h.1 in
        let p = placed-kind.1 t.placed in
        there c n r (PastBank n)
        (ten p (not-nine p h.0) ((past c.given met met.def.size (r.at.position + size_of met.node)).1 (t.size, t.sized, t.past)) refl),
  )
    where
      from : (why : Refusal) → Cause (closed_in c) r.stored (visit_in c n) r.at why → number_of why ≡ 10
          → (Nine c.given (visit_in c n) → ⊥) × Ten (visit_in c n) r.at.position
      from why (nine p d e) k = absurd (let z = ap number_of e in omega arith)
      from why (ten p d q e) k = (nine-not d, ten-test p q)
      from why (eleven p d q w e) k = absurd (let z = ap number_of e in omega arith)
      from why (store p d q w a) k = absurd (let z = store-number r.stored n (offer_of (visit_in c n)) why a in omega arith)

  -- "11: an item is written in a bank without output offset", where neither 9 nor 10 is.
  pub refused-11-exactly : RefusedThere c n 11 (One n)
      ↔ ((Nine c.given (visit_in c n) → ⊥) × (Ten (visit_in c n) r.at.position → ⊥) × Eleven (visit_in c n))
  refused-11-exactly = (
    λ t. let (why, cause, number, place) = cause-there c n r 11 (One n) t in from why cause number,
    λ h.
        let e = h.2 in
        let p = placed-kind.1 (inr (e.written.0, omega (arith, e.written.1))) in
        there c n r (NoOutput n) (eleven p (not-nine p h.0) (not-ten p h.1) (eleven-exactly.1 e) refl),
  )
    where
      from : (why : Refusal) → Cause (closed_in c) r.stored (visit_in c n) r.at why → number_of why ≡ 11
          → (Nine c.given (visit_in c n) → ⊥) × (Ten (visit_in c n) r.at.position → ⊥) × Eleven (visit_in c n)
      from why (nine p d e) k = absurd (let z = ap number_of e in omega arith)
      from why (ten p d q e) k = absurd (let z = ap number_of e in omega arith)
      from why (eleven p d q w e) k = (nine-not d, ten-not q, eleven-exactly.0 w)
      from why (store p d q w a) k = absurd (let z = store-number r.stored n (offer_of (visit_in c n)) why a in omega arith)

  -- ---- 12 and 13

  -- the build gets past 9, 10 and 11 at node n
  pub record GetsPast : Type 0 where
    pub nine : Nine c.given (visit_in c n) → ⊥
    pub ten : Ten (visit_in c n) r.at.position → ⊥
    pub eleven : Eleven (visit_in c n) → ⊥

module _ (c : Call) (n : ℕ) (r : Reaches c n) (p : GetsPast c n r) (e : Entry) (offer : Memᴰ e (offer_of (visit_in c n))) where
  answered-is : answered r.stored n (offer_of (visit_in c n)) ≡ answer r.stored e n
  answered-is = ap (answered r.stored n) (offer-is (visit_in c n) e offer)

  placed-here : is_placed (visit_in c n).node ≡ true
  placed-here = (placed-exactly (visit_in c n).node).1 (inr ((offered-exactly (visit_in c n).node).0 (picked-some (is_offered (visit_in c n).node) _ offer).0))

  -- what the store answers to the offer is the build's answer there
  pub refused-by-store : (number : ℕ) (place : Place) → 12 ≤ number
      → RefusedThere c n number place ↔ (told_verdict (answer r.stored e n) ≡ refuses number place)
  refused-by-store number place high = (
    λ t. let (why, cause, same, at) = cause-there c n r number place t in from why cause same at,
    λ t. to (answer r.stored e n) refl t,
  )
    where
      from : (why : Refusal) → Cause (closed_in c) r.stored (visit_in c n) r.at why → number_of why ≡ number → place_of why ≡ place
          → told_verdict (answer r.stored e n) ≡ refuses number place
      from why (nine x d q) k l = absurd (let z = ap number_of q in omega arith)
      from why (ten x d m q) k l = absurd (let z = ap number_of q in omega arith)
      from why (eleven x d m w q) k l = absurd (let z = ap number_of q in omega arith)
      from why (store x d m w a) k l = ap told_verdict (sym answered-is ∙ a) ∙ rw (k, l)

      to : (v : Verdict) → answer r.stored e n ≡ v → told_verdict v ≡ refuses number place → RefusedThere c n number place
      to Accepted a t = absurd (gave-refused t)
      to (Err why) a t =
          let (k, l) = same-told t in
          let w = not-holds (eleven-exactly c n r) p.eleven in
          subst (λ (k : ℕ). RefusedThere c n k place) k
          (subst (λ (l : Place). RefusedThere c n (number_of why) l) l
          (there c n r why (store placed-here (not-nine c n r placed-here p.nine) (not-ten c n r placed-here p.ten) w (answered-is ∙ a))))

  -- what is stored are the offers of the nodes before, those of nonzero size
  stored_is : r.stored ≡ state_after empty_state (offers_before c n)
  stored_is = (placed-accepts (closed_in c) empty_state r.stored (visits_before c n) r.before).0

  all-accepted : accepted empty_state (offers_before c n) ≡ offers_before c n
  all-accepted = (placed-accepts (closed_in c) empty_state r.stored (visits_before c n) r.before).1

  pub stored-from-offers : (f : Entry) → Memᴰ f r.stored.intervals → Memᴰ f (offers_before c n)
  stored-from-offers f m =
      subst (λ (l : List Entry). Memᴰ f l) all-accepted
      (stored-accepted (offers_before c n) f (subst (λ (s : State). Memᴰ f s.intervals) stored_is m))

  pub offers-are-stored : (f : Entry) → Memᴰ f (offers_before c n) → 0 < f.size → Memᴰ f r.stored.intervals
  offers-are-stored f m some =
      subst (λ (s : State). Memᴰ f s.intervals) (sym stored_is)
      (accepted-stored (offers_before c n) f some (subst (λ (l : List Entry). Memᴰ f l) (sym all-accepted) m))

  shares-before : SharesBitWith e r.stored.intervals ↔ SharesBitWith e (offers_before c n)
  shares-before = (
    λ w. (w.0, w.1, stored-from-offers w.0 w.2, w.3, w.4),
    λ w. (w.0, w.1, offers-are-stored w.0 w.2 (omega (arith, w.4.0, w.4.1)), w.3, w.4),
  )

  -- the marks kept are the offers of size 0 of the nodes before
  marks-before : HasInside e r.stored.marks ↔ CoversMark e (offers_before c n)
  marks-before = (
    λ w.
        let m = mark-accepted (offers_before c n) w.0 (subst (λ (s : State). Memᴰ w.0 s.marks) stored_is w.1) in (
          m.0,
          subst (λ (l : List Entry). Memᴰ m.0 l) all-accepted m.1,
          m.2,
          subst (λ (k : ℕ). StrictlyInside k e) (sym m.3) w.2,
        ),
    λ w. (
      w.0.position,
      subst (λ (s : State). Memᴰ w.0.position s.marks) (sym stored_is)
          (accepted-mark (offers_before c n) w.0 w.2 (subst (λ (l : List Entry). Memᴰ w.0 l) (sym all-accepted) w.1)),
      w.3,
    ),
  )

  any_place : (number : ℕ) → 12 ≤ number → ((place : Place) × RefusedThere c n number place) ↔ RefusedBy number (answer r.stored e n)
  any_place number high = (
    λ t. (t.0, (refused-by-store number t.0 high).0 t.1),
    λ t. (t.0, (refused-by-store number t.0 high).1 t.1),
  )

  -- "12: a placement overlaps": refused there exactly when some bit belongs to node n's placement and to that of a node before it, "or when an earlier
  -- accepted mark is strictly inside it".
  pub refused-12-exactly : 0 < e.size
      → ((place : Place) × RefusedThere c n 12 place) ↔ (SharesBitWith e (offers_before c n) ⊎ CoversMark e (offers_before c n))
  refused-12-exactly some = (
    λ t.
        ⊎_elim (λ w. inl (shares-before.0 w)) (λ w. inr (marks-before.0 w))
        ((overlap-offered r.stored e n some).0 ((any_place 12 (omega arith)).0 t)),
    λ h.
        (any_place 12 (omega arith)).1
        ((overlap-offered r.stored e n some).1 (⊎_elim (λ w. inl (shares-before.1 w)) (λ w. inr (marks-before.1 w)) h)),
  )

  -- strictly inside a stored interval is strictly inside the placement of a node before
  inside-before : InsideOf e.position r.stored.intervals ↔ InsideOf e.position (offers_before c n)
  inside-before = (
    λ w. (w.0, stored-from-offers w.0 w.1, w.2),
    λ w. (w.0, offers-are-stored w.0 w.1 (omega (arith, w.2.0, w.2.1)), w.2),
  )

  -- "an offer of size 0 is refused exactly when its position is strictly inside a stored interval", or 513 marks would be kept
  pub refused-12-empty-exactly : e.size ≡ 0
      → ((place : Place) × RefusedThere c n 12 place) ↔ InsideOf e.position (offers_before c n)
  refused-12-empty-exactly none = (
    λ t. inside-before.0 ((empty-offered r.stored e n none).0 ((any_place 12 (omega arith)).0 t)),
    λ w. (any_place 12 (omega arith)).1 ((empty-offered r.stored e n none).1 (inside-before.1 w)),
  )

  -- "13: the store holds 512 and the offer, of nonzero size, shares no bit": 512 of the placements before are of nonzero size.
  stored-many : length r.stored.intervals ≡ length (nonzero (offers_before c n))
  stored-many =
      ap (λ (s : State). length s.intervals) stored_is
      ∙ perm-length (stored-is-accepted (offers_before c n))
      ∙ ap (λ (l : List Entry). length (nonzero l)) all-accepted

  marks-many : length r.stored.marks ≡ length (empties (offers_before c n))
  marks-many =
      ap (λ (s : State). length s.marks) stored_is
      ∙ perm-length (marks-are-accepted (offers_before c n))
      ∙ ap (λ (l : List Entry). length (empties l)) all-accepted

  few-stored : length r.stored.intervals ≤ max_stored
  few-stored = subst (λ (s : State). length s.intervals ≤ max_stored) (sym stored_is) (stored-few (offers_before c n))

  few-marks : length r.stored.marks ≤ max_stored
  few-marks = subst (λ (s : State). length s.marks ≤ max_stored) (sym stored_is) (marks-few (offers_before c n))

  -- 13, and it has the node as its place: 512 are stored, no bit is shared, "and no accepted mark is strictly inside it";
  pub refused-13-exactly : 0 < e.size
      → RefusedThere c n 13 (One n)
      ↔ ((length (nonzero (offers_before c n)) ≡ max_stored) × (SharesBitWith e (offers_before c n) → ⊥) × (CoversMark e (offers_before c n) → ⊥))
  refused-13-exactly some =
      let offered = full-offered r.stored e n few-stored some in (
        λ t.
            let h = offered.0 ((any_place 13 (omega arith)).0 (One n, t)) in
            (sym stored-many ∙ h.0, λ w. h.1 (shares-before.1 w), λ w. h.2 (marks-before.1 w)),
        λ h.
            (refused-by-store 13 (One n) (omega arith)).1
            (full-place r.stored e n
            (offered.1 (stored-many ∙ h.0, λ w. h.1 (shares-before.0 w), λ w. h.2 (marks-before.0 w)))),
      )

  -- a mark is refused 13, at its node, exactly when 512 marks are kept and it is strictly inside no placement before.
  pub refused-13-empty-exactly : e.size ≡ 0
      → RefusedThere c n 13 (One n)
      ↔ ((length (empties (offers_before c n)) ≡ max_stored) × (InsideOf e.position (offers_before c n) → ⊥))
  refused-13-empty-exactly none =
      let offered = mark-full-offered r.stored e n few-marks none in (
        λ t.
            let h = offered.0 ((any_place 13 (omega arith)).0 (One n, t)) in
            (sym marks-many ∙ h.0, λ w. h.1 (inside-before.1 w)),
        λ h.
            (refused-by-store 13 (One n) (omega arith)).1
            (full-place r.stored e n (offered.1 (marks-many ∙ h.0, λ w. h.1 (inside-before.0 w)))),
      )

  -- "Refusal 12 names the lowest stored start at or above the offer if those two share a bit, otherwise the one below", "naming the lowest such mark
  -- unless an interval is to be named". Every bank's offset has 32 bits, as its field has.
  pub refused-12-names : OffsetsFit c.given.banks → (place : Place) → RefusedThere c n 12 place
      → (f : Entry) × (place ≡ Two f.position f.size) × Memᴰ f (offers_before c n) × Named r.stored e f
  refused-12-names offsets place t =
      let within = offers-within (program_in c) (row_in c) offsets (closed_in c) n r.stored r.before in
      let fits = subst Fits (sym stored_is) (fits-folded empty_state (offers_before c n) within fits-empty) in
      let told = (refused-by-store 12 place (omega arith)).0 t in
      let (f, named, is) = overlap-names r.stored e n fits (place, told) in
      (f, (same-told (sym told ∙ named)).1, from-offers f is, is)
    where
      -- what is named, an interval or a mark, is an offer of a node before
      from-offers : (f : Entry) → Named r.stored e f → Memᴰ f (offers_before c n)
      from-offers f (inl is) = stored-from-offers f is.member
      from-offers f (inr is) =
          let m = mark-accepted (offers_before c n) f.position (subst (λ (s : State). Memᴰ f.position s.marks) stored_is is.member) in
          let same : m.0 ≡ f = ap₂ interval m.3 (m.2 ∙ sym is.empty) in
          subst (λ (g : Entry). Memᴰ g (offers_before c n)) same
          (subst (λ (l : List Entry). Memᴰ m.0 l) all-accepted m.1)
