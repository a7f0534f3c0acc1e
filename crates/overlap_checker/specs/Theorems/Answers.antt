-- The three ways that an offer goes, and what each leaves in the store: laws of `tries`, `answer`, `keeping` and `after`.
use Rattle.std.specs.Prelude.{◌≡◌, ◌⊎◌, Bool, true, false, ℕ, ◌<◌, length, Err}
use Rattle.std.proofs.Common.{sym, ◌∙◌, arith, lt-ltb, le-ltb, subst, true≢false}
use Rattle.std.proofs.Math.Path.{ap}
use Rattle.std.proofs.Math.Logic.{inl, inr, ⊎_elim}
use Rattle.std.proofs.Math.Bool.{or-true}
use Rattle.prelude.specs.Laws.Bools.{neither}
use Rattle.prelude.specs.Limits.{max_stored}
use Rattle.prelude.specs.Laws.Pick.{pick_true, pick-false}
use Rattle.prelude.specs.Told.{told_verdict}
use Rattle.prelude.specs.declared.Refusal.{Refusal}
use Rattle.prelude.specs.declared.Refusal.TheVariants.{Overlap, StoreFull}
use Rattle.prelude.specs.Verdict.{Accepted}
use Rattle.overlap_checker.specs.declared.Entry.{Entry}
use Rattle.overlap_checker.specs.Interval.{interval}
use Rattle.overlap_checker.specs.Offers.{clashes_any, named, lacks_room}
use Rattle.overlap_checker.specs.Marks.{crosses_any, lowest_inside}
use Rattle.overlap_checker.specs.State.{State, holding, meets, tries, named_in, answer, figures, is_accepted, inserted, marked, keeping, after}
use Rattle.overlap_checker.specs.Laws.Ascending.{told, lt-or-le, or-none}
use Rattle.overlap_checker.specs.Laws.Answers.{no-mark-room, no_room, not-both}

-- ---- one of three

module _ (s : State) (e : Entry) where
  abbrev pub Hit : Type 0
  Hit = meets s e ≡ true

  abbrev pub Clear : Type 0
  Clear = meets s e ≡ false

  abbrev pub Lacks : Type 0
  Lacks = lacks_room (length s.intervals) (length s.marks) e.size ≡ true

  abbrev pub Room : Type 0
  Room = lacks_room (length s.intervals) (length s.marks) e.size ≡ false

  -- meeting nothing: no interval clashes, and no mark is strictly inside
  pub clear_apart : Clear → (clashes_any e s.intervals ≡ false) × (crosses_any e s.marks ≡ false)
  unfolding meets
  clear_apart clear = neither _ _ clear

  pub apart-clear : clashes_any e s.intervals ≡ false → crosses_any e s.marks ≡ false → Clear
  unfolding meets
  apart-clear none out = or-none none out

  pub clash-hits : clashes_any e s.intervals ≡ true → Hit
  unfolding meets
  clash-hits h = rw h

  pub cross-hits : crosses_any e s.marks ≡ true → Hit
  unfolding meets
  cross-hits h = rw h (or-true (clashes_any e s.intervals))

  pub hit-either : Hit → (clashes_any e s.intervals ≡ true) ⊎ (crosses_any e s.marks ≡ true)
  unfolding meets
  hit-either h = ⊎_elim (λ clash. inl clash) (λ none. inr (rw none at h)) (told (clashes_any e s.intervals))

  -- who is named
  pub named-interval : clashes_any e s.intervals ≡ true → named_in s e ≡ named s.intervals e
  unfolding named_in
  named-interval h = rw h

  pub named-mark : clashes_any e s.intervals ≡ false → named_in s e ≡ interval (lowest_inside e s.marks) 0
  unfolding named_in
  named-mark h = rw h

  pub three_ways : {Y : Type 0} → (Hit → Y) → (Clear → Lacks → Y) → (Clear → Room → Y) → Y
  three_ways hit full pass =
      ⊎_elim hit (λ clear. ⊎_elim (full clear) (pass clear) (told (lacks_room (length s.intervals) (length s.marks) e.size)))
      (told (meets s e))

  module _ {X : Type 0} (a b c : X) where
    pub tries-overlaps : Hit → tries s e a b c ≡ a
    unfolding tries
    tries-overlaps h = rw h

    pub tries-full : Clear → Lacks → tries s e a b c ≡ b
    unfolding tries
    tries-full h l = rw (h, l)

    pub tries-passes : Clear → Room → tries s e a b c ≡ c
    unfolding tries
    tries-passes h l = rw (h, l)

    pub tries-map : {Y : Type 0} (f : X → Y) → f (tries s e a b c) ≡ tries s e (f a) (f b) (f c)
    unfolding tries
    tries-map f =
        ⊎_elim (λ hit. ⊎_elim (λ none. both true true hit none) (λ some. both true false hit some) (told (lacks_room (length s.intervals) (length s.marks) e.size)))
        (λ clear. ⊎_elim (λ none. both false true clear none) (λ some. both false false clear some) (told (lacks_room (length s.intervals) (length s.marks) e.size)))
        (told (meets s e))
      where
        both : (p q : Bool) → meets s e ≡ p → lacks_room (length s.intervals) (length s.marks) e.size ≡ q → f (tries s e a b c) ≡ tries s e (f a) (f b) (f c)
        both true true h l = simp (h, l)
        both true false h l = simp (h, l)
        both false true h l = simp (h, l)
        both false false h l = simp (h, l)

  -- The answer's number and place are the figures.
  pub told-answer : (node : ℕ) → told_verdict (answer s e node) ≡ figures s e node
  told-answer node = tries-map _ _ _ told_verdict

  -- The node only names the refusal.
  pub accepts-any-node : (node : ℕ) → is_accepted (answer s e node) ≡ is_accepted (answer s e 0)
  accepts-any-node node = tries-map _ _ _ is_accepted ∙ sym (tries-map _ _ _ is_accepted)

  module _ (node : ℕ) where
    pub answer-overlaps : Hit → answer s e node ≡ Err (Overlap (named_in s e).position (named_in s e).size)
    unfolding tries
    answer-overlaps h = rw h

    -- An offer that meets something is refused, whatever it is told.
    pub hit-refused : Hit → is_accepted (answer s e node) ≡ false
    unfolding tries
    hit-refused h = ⊎_elim (λ l. off true h l) (λ l. off false h l) (told (lacks_room (length s.intervals) (length s.marks) e.size))
      where
        off : (q : Bool) → meets s e ≡ true → lacks_room (length s.intervals) (length s.marks) e.size ≡ q → is_accepted (answer s e node) ≡ false
        off true hit l = simp (hit, l)
        off false hit l = simp (hit, l)

    pub answer-full : Clear → Lacks → answer s e node ≡ Err (StoreFull node)
    answer-full h l = tries-full _ _ _ h l

    pub answer-passes : Clear → Room → answer s e node ≡ Accepted
    answer-passes h l = tries-passes _ _ _ h l

    -- an accepted offer meets nothing, and finds room
    pub accepted-clear : answer s e node ≡ Accepted → Clear
    accepted-clear given =
        three_ways (λ h. absurd (true≢false (sym (ap is_accepted given) ∙ hit-refused h))) (λ h l. h) (λ h l. h)

    pub accepted-free : answer s e node ≡ Accepted → clashes_any e s.intervals ≡ false
    accepted-free given = (clear_apart (accepted-clear given)).0

    pub accepted-uncrossed : answer s e node ≡ Accepted → crosses_any e s.marks ≡ false
    accepted-uncrossed given = (clear_apart (accepted-clear given)).1

    pub accepted-room : answer s e node ≡ Accepted → 0 < e.size → length s.intervals < max_stored
    accepted-room given n =
        ⊎_elim (λ room. room)
        (λ much. absurd
        (not-both
        (sym given ∙ answer-full (accepted-clear given) (no_room (length s.intervals) (length s.marks) e.size n much))))
        (lt-or-le (length s.intervals) max_stored)

    pub accepted-mark-room : answer s e node ≡ Accepted → e.size ≡ 0 → length s.marks < max_stored
    accepted-mark-room given z =
        ⊎_elim (λ room. room)
        (λ much. absurd
        (not-both
        (sym given ∙ answer-full (accepted-clear given) (no-mark-room (length s.intervals) (length s.marks) e.size z much))))
        (lt-or-le (length s.marks) max_stored)

    -- what an offer leaves, by its answer
    pub accepted-keeps : answer s e node ≡ Accepted → after s e ≡ keeping s e
    unfolding after
    accepted-keeps given = pick_true (keeping s e) s (sym (accepts-any-node node) ∙ ap is_accepted given)

    pub refused-keeps : (why : Refusal) → answer s e node ≡ Err why → after s e ≡ s
    unfolding after
    refused-keeps why r = pick-false (keeping s e) s (sym (accepts-any-node node) ∙ ap is_accepted r)

    pub hit-keeps : Hit → after s e ≡ s
    unfolding after
    hit-keeps h = pick-false (keeping s e) s (sym (accepts-any-node node) ∙ hit-refused h)

  pub keeping-bits : 0 < e.size → keeping s e ≡ holding (inserted s.intervals e) s.marks
  unfolding keeping
  keeping-bits n = pick_true (holding (inserted s.intervals e) s.marks) _ (lt-ltb 0 e.size n)

  pub keeping-mark : e.size ≡ 0 → keeping s e ≡ holding s.intervals (marked s.marks e.position)
  unfolding keeping
  keeping-mark z = pick-false _ (holding s.intervals (marked s.marks e.position)) (le-ltb 0 e.size (omega arith))

  -- what holds of the state given, of an accepted interval put in, and of an accepted mark put in, holds of the state afterwards
  pub after-either : (P : State → Type 0) → P s
      → (Clear → 0 < e.size → length s.intervals < max_stored → P (holding (inserted s.intervals e) s.marks))
      → (Clear → e.size ≡ 0 → length s.marks < max_stored → P (holding s.intervals (marked s.marks e.position)))
      → P (after s e)
  after-either P same put mark =
      three_ways
      (λ h. subst P (sym (hit-keeps 0 h)) same)
      (λ h l. rw (refused-keeps 0 _ (answer-full 0 h l)) same)
      (λ h l. rw (accepted-keeps 0 (answer-passes 0 h l))
      (⊎_elim (λ n. rw (keeping-bits n) (put h n (accepted-room 0 (answer-passes 0 h l) n)))
      (λ z. let none : e.size ≡ 0 = omega arith in
      rw (keeping-mark none) (mark h none (accepted-mark-room 0 (answer-passes 0 h l) none)))
      (lt-or-le 0 e.size)))
