-- The first entry and the first mark at fault, by the sentences.
use Rattle.std.specs.Prelude.{◌≡◌, refl, true, List, [], ◌∷◌, ◌⊎◌, ltb, eqb, length, get_or, take}
use Rattle.std.proofs.Common.{sym, ◌∙◌, subst, inl, inr, ltb-true, eqb-true, length-take-le, get_or-take}
use Rattle.std.proofs.Math.Logic.{⊎_elim}
use Prim.Native.Nat.{ℕ, zero, suc, ◌+◌, ◌≤◌, ◌<◌}
use native.Mathlib.Omega.{arith}
use Rattle.std.proofs.lemmas.Bool.{eqb-false}
use Rattle.prelude.specs.Laws.Bools.{either}
use Rattle.sort.specs.Laws.Sorted.{le-or-lt}
use Rattle.overlap_checker.specs.declared.Entry.{Entry}
use Rattle.overlap_checker.specs.Interval.{interval, end, past_limits}
use Rattle.overlap_checker.specs.Entries.{entry_at}
use Rattle.overlap_checker.specs.Stored.{at_fault, first_fault, Proper}
use Rattle.overlap_checker.specs.Offers.{clashes_any}
use Rattle.overlap_checker.specs.Marks.{mark_at_fault, first_mark_fault, ProperMarks}
use Rattle.overlap_checker.specs.Lent.{held_marks}
use Rattle.overlap_checker.specs.Laws.Bits.{any_found}
use Rattle.overlap_checker.specs.Theorems.Bits.{clash-empty-exactly}
use Rattle.overlap_checker.specs.Theorems.Faults.{first-fault-exactly}
use Rattle.overlap_checker.specs.Laws.Faults.{first-mark-fault-exactly}
use Rattle.says.specs.Words.{First}
use Rattle.says.specs.Store as w
use Rattle.says.specs.Store.{Store, Arrays, Inside, start, size, mark, BadEntry, BadMark}
use Rattle.meets_store.specs.Laws.Held.{as_lent, entries, count-is, entry-is, entry_in, entry_of, mark-count-is, mark-is}

-- ---- the definition's scan stops at what is at fault

-- where the entry before i ends
floor_at : ℕ → List Entry → ℕ → ℕ
floor_at floor l zero = floor
floor_at floor l (suc i) = end (entry_at l i)

shift : (floor : ℕ) (e : Entry) (l : List Entry) (j : ℕ) → at_fault (floor_at (end e) l j) (entry_at l j) ≡ true
    → at_fault (floor_at floor (e ∷ l) (suc j)) (entry_at (e ∷ l) (suc j)) ≡ true
unfolding floor_at
shift floor e l zero h = h
shift floor e l (suc j) h = h

stops : (floor : ℕ) (l : List Entry) → first_fault floor l < length l → at_fault (floor_at floor l (first_fault floor l)) (entry_at l (first_fault floor l)) ≡ true
unfolding first_fault floor_at
stops floor [] h = absurd (omega arith)
stops floor (e ∷ l) h =
    either (at_fault floor e) (λ bad. rw bad bad)
    (λ fine. rw fine
    (shift floor e l (first_fault (end e) l) (stops (end e) l (let g : suc (first_fault (end e) l) < suc (length l) = rw fine at h in omega arith))))

-- the mark before mark i
mark_floor : ℕ → List ℕ → ℕ → ℕ
mark_floor floor ms zero = floor
mark_floor floor ms (suc i) = get_or ms i 0

mark-shift : (l : List Entry) (floor m : ℕ) (ms : List ℕ) (j : ℕ) → mark_at_fault l (mark_floor m ms j) (get_or ms j 0) ≡ true
    → mark_at_fault l (mark_floor floor (m ∷ ms) (suc j)) (get_or (m ∷ ms) (suc j) 0) ≡ true
unfolding mark_floor
mark-shift l floor m ms zero h = h
mark-shift l floor m ms (suc j) h = h

mark-stops : (l : List Entry) (floor : ℕ) (ms : List ℕ) → first_mark_fault l floor ms < length ms
    → mark_at_fault l (mark_floor floor ms (first_mark_fault l floor ms)) (get_or ms (first_mark_fault l floor ms) 0) ≡ true
unfolding first_mark_fault mark_floor
mark-stops l floor [] h = absurd (omega arith)
mark-stops l floor (m ∷ ms) h =
    either (mark_at_fault l floor m) (λ bad. rw bad bad)
    (λ fine. rw fine
    (mark-shift l floor m ms (first_mark_fault l m ms)
    (mark-stops l m ms (let g : suc (first_mark_fault l m ms) < suc (length ms) = rw fine at h in omega arith))))

-- ---- why it is

entry-why : (floor p z : ℕ) → at_fault floor (interval p z) ≡ true
    → (8589934590 < p) ⊎ ((4294967295 < z) ⊎ ((z ≡ 0) ⊎ ((0 < z) × (p < floor))))
unfolding at_fault past_limits
entry-why floor p z e =
    either (ltb 8589934590 p) (λ t. inl (ltb-true 8589934590 p t))
    (λ f. either (ltb 4294967295 z) (λ t. inr (inl (ltb-true 4294967295 z t)))
    (λ g. either (eqb z 0) (λ t. inr (inr (inl (eqb-true z 0 t))))
    (λ k. let n = eqb-false z 0 k in inr (inr (inr (omega arith, ltb-true p floor (rw (f, g, k) at e)))))))

mark-why : (l : List Entry) (floor m : ℕ) → mark_at_fault l floor m ≡ true
    → (8589934590 < m) ⊎ ((m < floor) ⊎ (clashes_any (interval m 0) l ≡ true))
unfolding mark_at_fault
mark-why l floor m e =
    either (ltb 8589934590 m) (λ t. inl (ltb-true 8589934590 m t))
    (λ f. either (ltb m floor) (λ t. inr (inl (ltb-true m floor t))) (λ g. inr (inr (rw (f, g) at e))))

-- ---- by the sentences

module _ (s : Store) where
  pub entry-stored : {i : ℕ} → BadEntry s i → i < s.count
  entry-stored (w.position_past h p) = h
  entry-stored (w.size-past h p) = h
  entry-stored (w.empty h p) = h
  entry-stored (w.not-ascending h k p) = h
  entry-stored (w.shares-bit h k p q) = h

  pub mark-stored : {i : ℕ} → BadMark s i → i < s.mark_count
  mark-stored (w.mark-past h p) = h
  mark-stored (w.out_of_order h k p) = h
  mark-stored (w.inside-interval h k p) = h

  -- proper entries are not at fault
  pub proper-none : (l : List Entry) → Proper l → ((i : ℕ) → i < length l → entry_at l i ≡ interval (start s i) (size s i)) → {i : ℕ} → i < length l
      → BadEntry s i → ⊥
  proper-none l p is {i} m (w.position_past h f) =
      let q : start s i ≤ 8589934590 = rw (is i m) at (p.within i m).0 in omega arith
  proper-none l p is {i} m (w.size-past h f) =
      let q : size s i ≤ 4294967295 = rw (is i m) at (p.within i m).1 in omega arith
  proper-none l p is {i} m (w.empty h f) = let q : 0 < size s i = rw (is i m) at (p.nonempty i m) in omega arith
  proper-none l p is {i} m (w.not-ascending {j} h k f) =
      let q : start s j < start s i = rw (is i m, is j (omega arith)) at (p.ascends j i k m) in omega arith
  proper-none l p is {i} m (w.shares-bit {j} {bit} h k f g) = p.disjoint j i k m (rw (is i m, is j (omega arith)) (bit, g, f))

  module _ (a : Arrays s) (few : s.count ≤ 512) where
    abbrev l : List Entry
    l = entries s a few

    low : (i p : ℕ) → p < floor_at 0 l i → p ≡ start s i → 0 < size s i → i < s.count → BadEntry s i
    unfolding floor_at
    low zero p h is n m = absurd (omega arith)
    low (suc j) p h is n m =
        let k : p < start s j + size s j = rw (entry-is s a few j (omega arith)) at h in
        ⊎_elim (λ le. w.not-ascending {j = j} m (omega arith) le)
        (λ lt. w.shares-bit {j = j} {bit = start s (suc j)} m (omega arith) (omega arith, omega arith) (omega arith, omega arith))
        (le-or-lt (start s (suc j)) (start s j))

    bad-entry : (i : ℕ) → i < s.count → at_fault (floor_at 0 l i) (entry_at l i) ≡ true → BadEntry s i
    bad-entry i m h =
        ⊎_elim (λ p. w.position_past m p)
        (⊎_elim (λ p. w.size-past m p)
        (⊎_elim (λ p. w.empty m p) (λ p. low i (start s i) p.1 refl p.0 m)))
        (entry-why (floor_at 0 l i) (start s i) (size s i) (rw (entry-is s a few i m) at h))

    -- the first entry at fault
    pub first_entry : first_fault 0 l < length l → First (BadEntry s) (first_fault 0 l)
    first_entry h =
        let i = first_fault 0 l in
        let count = count-is s a few in
        let before = (first-fault-exactly l h).0 in
        let long : length (take i l) ≡ i = length-take-le i l (omega arith) in
        record {
          so = bad-entry i (omega arith) (stops 0 l h);
          none_below = λ k b. ⊎_elim (λ le. le)
              (λ lt. absurd (proper-none (take i l) before
              (λ j m. get_or-take i l j (interval 0 0) (omega arith) ∙ entry-is s a few j (omega (arith, long, m, count)))
              (omega (arith, long)) b))
              (le-or-lt i k);
        }

    -- proper marks are not at fault
    pub proper-marks-none : (ms : List ℕ) → ProperMarks l ms → ((i : ℕ) → i < length ms → get_or ms i 0 ≡ mark s i) → {i : ℕ} → i < length ms
        → BadMark s i → ⊥
    proper-marks-none ms p is {i} m (w.mark-past h f) =
        let q : mark s i ≤ 8589934590 = rw (is i m) at (p.within i m) in omega arith
    proper-marks-none ms p is {i} m (w.out_of_order {j} h k f) =
        let q : mark s j ≤ mark s i = rw (is i m, is j (omega arith)) at (p.ordered j i k m) in omega arith
    proper-marks-none ms p is {i} m (w.inside-interval {j} h k f) =
        p.outside i m (interval (start s j) (size s j)) (entry_in s a few j k) (rw (is i m) f)

    module _ (marks-few : s.mark_count ≤ 512) where
      abbrev ms : List ℕ
      ms = held_marks (as_lent s)

      behind : (i : ℕ) → mark s i < mark_floor 0 ms i → i < s.mark_count → BadMark s i
      unfolding mark_floor
      behind zero h m = absurd (omega arith)
      behind (suc j) h m =
          let k : mark s (suc j) < mark s j = rw (mark-is s a few marks-few j (omega arith)) at h in
          w.out_of_order {j = j} m (omega arith) k

      bad-mark : (i : ℕ) → i < s.mark_count → mark_at_fault l (mark_floor 0 ms i) (get_or ms i 0) ≡ true → BadMark s i
      bad-mark i m h =
          ⊎_elim (λ p. w.mark-past m p)
          (⊎_elim (λ p. behind i p m)
          (λ p. let (f, member, c) = any_found (interval (mark s i) 0) l p in
          let inside = (clash-empty-exactly (interval (mark s i) 0) f refl).0 c in
          let (j, k, is) = entry_of s a few f member in
          w.inside-interval {j = j} m k (subst (λ (g : Entry). Inside g.position g.size (mark s i)) (sym is) inside)))
          (mark-why l (mark_floor 0 ms i) (mark s i) (rw (mark-is s a few marks-few i m) at h))

      -- the first mark at fault
      pub first-mark : first_mark_fault l 0 ms < length ms → First (BadMark s) (first_mark_fault l 0 ms)
      first-mark h =
          let i = first_mark_fault l 0 ms in
          let count = mark-count-is s a few marks-few in
          let before = (first-mark-fault-exactly l ms h).0 in
          let long : length (take i ms) ≡ i = length-take-le i ms (omega arith) in
          record {
            so = bad-mark i (omega arith) (mark-stops l 0 ms h);
            none_below = λ k b. ⊎_elim (λ le. le)
                (λ lt. absurd (proper-marks-none (take i ms) before
                (λ j m. get_or-take i ms j 0 (omega arith) ∙ mark-is s a few marks-few j (omega (arith, long, m, count)))
                (omega (arith, long)) b))
                (le-or-lt i k);
          }
