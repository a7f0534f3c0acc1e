-- Demand 3 as Ticket 10 rewords it, of calls of `dk_offer` by its sentences: from a store without intervals or marks, after any offers within the limits,
-- when a further one is refused, and what is stored.
use Rattle.std.specs.Prelude.{◌≡◌, refl, true, false, ◌↔◌, ◌⊎◌, ℕ, ◌+◌, ◌≤◌, ◌<◌, ltb, length, take}
use Rattle.std.proofs.Common.{sym, ap, ◌∙◌, subst, inl, inr, ⊎_elim, arith, lt-ltb, le-ltb}
use Rattle.prelude.specs.Verdict.{Verdict}
use mathlib.Core.List.{List, ◌∷◌, Memᴰ, Permᴰ}
use Rattle.sort.specs.Laws.Sorted.{le-or-lt}
use Rattle.overlap_checker.specs.declared.Entry.{Entry}
use Rattle.overlap_checker.specs.Interval.{interval}
use Rattle.overlap_checker.specs.State.{empty_state, answer}
use Rattle.overlap_checker.specs.Lent.{held, held_marks, Sound, call_answer}
use Rattle.overlap_checker.specs.Folds.{state_after, accepted, accepted_by, nonzero, empties, RefusedBy}
use Rattle.overlap_checker.specs.Laws.Ascending.{ends-before}
use Rattle.overlap_checker.proofs.GoingLaws.{held-ascends}
use Rattle.overlap_checker.proofs.Demand3Calls as calls
use Rattle.overlap_checker.proofs.WhatIsStored as what
use Rattle.says.specs.Words.{Not}
use Rattle.says.specs.Store.{Store, Outcome, Inside, start, size, mark, OfferSays}
use Rattle.says.specs.Offers.{handed}
use Rattle.meets_store.specs.Calls as c
use Rattle.meets_store.specs.Calls.{Empty, Within, AllWithin, Calls, SharesBit, HasMarkInside, InsideOne, Apart}
use Rattle.meets_store.specs.Laws.Held.{as_lent, count-is, entry-is, entry_in, entry_of, mark-count-is, mark-is, mark-in, mark_of}
use Rattle.meets_store.specs.Laws.Turns.{Turned, turned, call-made, number_is, by_number}

-- ---- offers with bits and without
apart-is : {l blocks : List Entry} {marks : List ℕ} → Apart l blocks marks → (nonzero l ≡ blocks) × (empties l ≡ marks)
unfolding nonzero empties
apart-is c.none = (refl, refl)
apart-is (c.block {e = e} n r) =
    let (b, m) = apart-is r in
    let t : ltb 0 e.size ≡ true = lt-ltb 0 e.size n in
    (rw t (ap (λ (x : List Entry). e ∷ x) b), rw t m)
apart-is (c.mark {e = e} z r) =
    let (b, m) = apart-is r in
    let t : ltb 0 e.size ≡ false = le-ltb 0 e.size (omega arith) in
    (rw t b, rw t (ap (λ (x : List ℕ). e.position ∷ x) m))

-- Offers `es`, all within the limits, made in turn from a store without intervals or marks; `taken` are those that were accepted, and t is the store then.
module _ (s : Store) (empty : Empty s) (es taken : List Entry) (all : AllWithin es) (t : Store) (run : Calls s es taken t) where
  gone : Turned s es taken t
  gone = turned empty.arrays run

  abbrev wide : length s.positions ≡ 512
  wide = empty.arrays.positions

  abbrev long : length s.sizes ≡ 512
  long = empty.arrays.sizes

  abbrev broad : length s.marks ≡ 512
  broad = empty.arrays.marks

  abbrev vs : List (Verdict)
  vs = gone.verdicts

  sound : Sound (as_lent t)
  sound = calls.sound-in-turn (as_lent s) wide long broad empty.count empty.mark_count es vs (as_lent t) all gone.run

  accepted-is : accepted empty_state es ≡ taken
  accepted-is =
      ap (accepted_by es) (sym (calls.answers-are (as_lent s) wide long broad empty.count empty.mark_count es vs (as_lent t) all gone.run))
      ∙ gone.same

  held-is : held (as_lent t) ≡ (state_after empty_state es).intervals
  held-is = calls.held-is (as_lent s) wide long broad empty.count empty.mark_count es vs (as_lent t) all gone.run

  marks-is : held_marks (as_lent t) ≡ (state_after empty_state es).marks
  marks-is = calls.marks-is (as_lent s) wide long broad empty.count empty.mark_count es vs (as_lent t) all gone.run

  held-taken : (f : Entry) → Memᴰ f (held (as_lent t)) → Memᴰ f taken
  held-taken f m = rw accepted-is at (what.stored-accepted es f (rw held-is at m))

  taken-held : (f : Entry) → 0 < f.size → Memᴰ f taken → Memᴰ f (held (as_lent t))
  taken-held f n m = rw (← held-is) at (what.accepted-stored es f n (rw (← accepted-is) at m))

  -- ---- what is stored

  -- Each accepted offer with bits is stored, and nothing else is.
  pub stored-exactly : (f : Entry) → ((0 < f.size) × Memᴰ f taken) ↔ ((i : ℕ) × (i < t.count) × (start t i ≡ f.position) × (size t i ≡ f.size))
  stored-exactly f = (
    (λ h. let (i, k, is) = entry_of t gone.arrays sound.few f (taken-held f h.0 h.1) in
        (i, k, ap (λ (g : Entry). g.position) is, ap (λ (g : Entry). g.size) is)),
    (λ h. let (i, k, p, z) = h in
        let is : interval (start t i) (size t i) ≡ f = rw (p, z) in
        let proper = calls.stored-proper (as_lent s) wide long broad empty.count empty.mark_count es vs (as_lent t) all gone.run in
        let n : 0 < size t i = rw (entry-is t gone.arrays sound.few i k) at
        (proper.nonempty i (omega (arith, count-is t gone.arrays sound.few))) in
        (omega (arith, z, n), held-taken f (subst (λ (g : Entry). Memᴰ g (held (as_lent t))) is (entry_in t gone.arrays sound.few i k)))),
  )

  -- The intervals ascend, and no two share a bit: each ends where a later one starts, or before.
  pub stored-ascend : (i j : ℕ) → i < j → j < t.count → start t i + size t i ≤ start t j
  stored-ascend i j h k =
      let count = count-is t gone.arrays sound.few in
      rw (entry-is t gone.arrays sound.few i (omega arith), entry-is t gone.arrays sound.few j k) at
      (ends-before 0 (held (as_lent t)) (held-ascends (as_lent t) sound) i j h (omega arith))

  -- Each accepted offer of size 0 is a mark, and nothing else is;
  pub marked-exactly : (m : ℕ) → ((f : Entry) × Memᴰ f taken × (f.size ≡ 0) × (f.position ≡ m)) ↔ ((i : ℕ) × (i < t.mark_count) × (mark t i ≡ m))
  marked-exactly m = (
    (λ h. let (f, k, z, is) = h in
        let member : Memᴰ f.position (held_marks (as_lent t)) = rw (← marks-is) at (what.accepted-mark es f z (rw (← accepted-is) at k)) in
        let (i, less, at) = mark_of t gone.arrays sound.few sound.few_marks f.position member in
        (i, less, at ∙ is)),
    (λ h. let (i, less, at) = h in
        let member : Memᴰ (mark t i) (held_marks (as_lent t)) = mark-in t gone.arrays sound.few sound.few_marks i less in
        let (f, k, z, is) = what.mark-accepted es (mark t i) (rw marks-is at member) in
        (f, rw accepted-is at k, z, is ∙ at)),
  )

  -- no mark is strictly inside an interval.
  pub marks-outside : (i j : ℕ) → i < t.mark_count → j < t.count → Not (Inside (start t j) (size t j) (mark t i))
  marks-outside i j h k inside =
      let proper = calls.marks-proper (as_lent s) wide long broad empty.count empty.mark_count es vs (as_lent t) all gone.run in
      proper.outside i (omega (arith, mark-count-is t gone.arrays sound.few sound.few_marks)) (interval (start t j) (size t j))
      (entry_in t gone.arrays sound.few j k)
      (subst (λ (m : ℕ). Inside (start t j) (size t j) m) (sym (mark-is t gone.arrays sound.few sound.few_marks i h)) inside)

  -- "marks may coincide, each kept": the marks are the positions of the accepted offers of size 0, each as often as it was accepted.
  pub marks-each-kept : {blocks : List Entry} {marks : List ℕ} → Apart taken blocks marks → Permᴰ (take t.mark_count t.marks) marks
  marks-each-kept a =
      let p = calls.marks-are-accepted (as_lent s) wide long broad empty.count empty.mark_count es vs (as_lent t) all gone.run in
      rw (gone.same, (apart-is a).1) at p

  -- ---- a further offer
  module _ (e : Entry) (within : Within e) (y : Outcome) (says : OfferSays t e y) where
    abbrev v : Verdict
    v = call_answer (as_lent t) e

    numbered : (n : ℕ) → 0 < n → (y.answer.refusal ≡ n) ↔ RefusedBy n v
    numbered n some = (
      (λ h. (by_number v n some).1 (sym (number_is gone.arrays says) ∙ h)),
      (λ r. number_is gone.arrays says ∙ (by_number v n some).0 r),
    )

    -- Of nonzero size, it is refused 12 exactly when some bit belongs both to it and to an earlier accepted one, "or when an earlier accepted mark is
    -- strictly inside it".
    pub overlap-exactly : 0 < e.size → (y.answer.refusal ≡ 12) ↔ (SharesBit e taken ⊎ HasMarkInside e taken)
    overlap-exactly n =
        let (to, from) = calls.overlap-exactly (as_lent s) wide long broad empty.count empty.mark_count es vs (as_lent t) all gone.run e within v
        (as_lent (handed y)) (call-made gone.arrays says) n in (
          (λ h. rw gone.same at (to ((numbered 12 (omega arith)).0 h))),
          (λ h. (numbered 12 (omega arith)).1 (from (rw (← gone.same) at h))),
        )

    -- It is refused 13 exactly when 512 are stored, it shares no bit with an earlier accepted one, "and no accepted mark is strictly inside it".
    pub full-exactly : 0 < e.size → (y.answer.refusal ≡ 13) ↔ ((t.count ≡ 512) × Not (SharesBit e taken) × Not (HasMarkInside e taken))
    full-exactly n =
        let (to, from) = calls.full-exactly (as_lent s) wide long broad empty.count empty.mark_count es vs (as_lent t) all gone.run e within v
        (as_lent (handed y)) (call-made gone.arrays says) n in (
          (λ h. rw gone.same at (to ((numbered 13 (omega arith)).0 h))),
          (λ h. (numbered 13 (omega arith)).1 (from (rw (← gone.same) at h))),
        )

    inside-exactly : InsideOne e.position (held (as_lent t)) ↔ InsideOne e.position taken
    inside-exactly = (
      (λ h. (h.0, held-taken h.0 h.1, h.2)),
      (λ h. (h.0, taken-held h.0 (omega (arith, h.2.0, h.2.1)) h.1, h.2)),
    )

    -- A mark is refused 12 exactly when it is strictly inside an earlier accepted interval,
    pub mark-overlap-exactly : e.size ≡ 0 → (y.answer.refusal ≡ 12) ↔ InsideOne e.position taken
    mark-overlap-exactly z =
        let (to, from) = calls.empty-exactly (as_lent s) wide long broad empty.count empty.mark_count es vs (as_lent t) all gone.run e within v
        (as_lent (handed y)) (call-made gone.arrays says) z in (
          (λ h. inside-exactly.0 (to ((numbered 12 (omega arith)).0 h))),
          (λ h. (numbered 12 (omega arith)).1 (from (inside-exactly.1 h))),
        )

    -- and 13 exactly when it is not and 512 marks are kept.
    pub mark-full-exactly : e.size ≡ 0 → (y.answer.refusal ≡ 13) ↔ ((t.mark_count ≡ 512) × Not (InsideOne e.position taken))
    mark-full-exactly z =
        let (to, from) = calls.mark-full-exactly (as_lent s) wide long broad empty.count empty.mark_count es vs (as_lent t) all gone.run e within v
        (as_lent (handed y)) (call-made gone.arrays says) z in (
          (λ h. let r = to ((numbered 13 (omega arith)).0 h) in (r.0, (λ i. r.1 (inside-exactly.1 i)))),
          (λ h. (numbered 13 (omega arith)).1 (from (h.0, (λ i. h.1 (inside-exactly.0 i))))),
        )

    -- No other refusal comes.
    pub only_two : ((y.answer.refusal ≡ 0) ⊎ (y.answer.refusal ≡ 12)) ⊎ (y.answer.refusal ≡ 13)
    only_two = go y.answer.refusal refl
      where
        go : (n : ℕ) → y.answer.refusal ≡ n → ((y.answer.refusal ≡ 0) ⊎ (y.answer.refusal ≡ 12)) ⊎ (y.answer.refusal ≡ 13)
        go n is =
            ⊎_elim (λ le. inl (inl (omega arith)))
            (λ some. ⊎_elim (λ twelve. inl (inr (is ∙ twelve))) (λ thirteen. inr (is ∙ thirteen))
            (calls.only_two (as_lent s) wide long broad empty.count empty.mark_count es vs (as_lent t) all gone.run e within v
            (as_lent (handed y)) (call-made gone.arrays says) n some ((numbered n some).0 is)))
            (le-or-lt n 0)
