-- Laws that Theorems/MarkLaws rests on.
use Rattle.std.specs.Prelude.{◌≡◌, refl, true, false, ℕ, zero, suc, ◌+◌, ◌≤◌, ◌<◌, length, drop, get_or}
use Rattle.std.proofs.Common.{sym, ap, ◌∙◌, ⊎_elim, true≢false, le_of_suc-le-suc, add-one, arith, ltb-false, le-ltb, drop_of_length-le}
use Rattle.std.proofs.Math.Bool.{or-true}
use mathlib.Core.List.Memᴰ
use mathlib.Core.List.{List, [], ◌∷◌, Memᴰ}
use Rattle.std.proofs.Math.Nat.{suc_inj}
use Rattle.std.proofs.Math.Seq.{drop-cons}
use Rattle.prelude.specs.Laws.Bools.{neither}
use Rattle.prelude.specs.Limits.{max_offer}
use Rattle.overlap_checker.specs.declared.Entry.{Entry}
use Rattle.overlap_checker.specs.Interval.{interval, end, StrictlyInside, strictly_inside, clashes}
use Rattle.overlap_checker.specs.Offers.{place_for, clashes_any}
use Rattle.overlap_checker.specs.Marks.{count_below, crosses_any, lowest_inside, mark_at_fault, first_mark_fault, ProperMarks}
use Rattle.overlap_checker.specs.State.{put_at, inserted}
use Rattle.overlap_checker.specs.Laws.Ascending.{told, lt-or-le, or-none}
use Rattle.overlap_checker.specs.Theorems.Bits.{inside-exactly, clash-empty-exactly}
use Rattle.overlap_checker.specs.Laws.Bits.{any_found, any_of}
use Rattle.overlap_checker.specs.Rising.{Rising}
use Rattle.overlap_checker.specs.Laws.Rising.{rising-ordered, rising-member, counted-below, counted-above}

-- ---- strictly inside

not-inside : (m : ℕ) (e : Entry) → (StrictlyInside m e → ⊥) → strictly_inside m e ≡ false
not-inside m e h = ⊎_elim (λ hit. absurd (h ((inside-exactly m e).0 hit))) (λ out. out) (told (strictly_inside m e))

-- some mark is strictly inside exactly when one of the list is
pub cross-found : (e : Entry) (ms : List ℕ) → crosses_any e ms ≡ true → (m : ℕ) × Memᴰ m ms × StrictlyInside m e
unfolding crosses_any
cross-found e [] h = absurd (true≢false (sym h))
cross-found e (m ∷ ms) h =
    ⊎_elim (λ here. (m, Memᴰ.head refl, (inside-exactly m e).0 here))
    (λ not-here. let r = cross-found e ms (rw not-here at h) in (r.0, Memᴰ.tail r.1, r.2))
    (told (strictly_inside m e))

pub cross-of : (e : Entry) (ms : List ℕ) (m : ℕ) → Memᴰ m ms → StrictlyInside m e → crosses_any e ms ≡ true
unfolding crosses_any
cross-of e [] m i h = absurd (Memᴰ.not-nil i)
cross-of e (n ∷ ms) m i h =
    ⊎_elim (λ same. rw (← same, (inside-exactly m e).1 h)) (λ rest. rw (cross-of e ms m rest h) (or-true (strictly_inside n e)))
    (Memᴰ.cases_cons i)

-- an offer of size 0 has nothing inside
pub crosses-none : (e : Entry) (ms : List ℕ) → e.size ≡ 0 → crosses_any e ms ≡ false
crosses-none e ms z =
    ⊎_elim (λ hit. let w = cross-found e ms hit in absurd (omega (arith, w.2.0, w.2.1))) (λ out. out) (told (crosses_any e ms))

-- Of ascending marks it is one of them, strictly inside, and none lower is.
pub lowest-least : (e : Entry) (floor : ℕ) (ms : List ℕ) → Rising floor ms → crosses_any e ms ≡ true
    → Memᴰ (lowest_inside e ms) ms
    × StrictlyInside (lowest_inside e ms) e
    × ((m : ℕ) → Memᴰ m ms → StrictlyInside m e → lowest_inside e ms ≤ m)
unfolding crosses_any lowest_inside
lowest-least e floor [] r h = absurd (true≢false (sym h))
lowest-least e floor (n ∷ ms) r h =
    ⊎_elim
    (λ here. rw here (
      Memᴰ.head refl,
      (inside-exactly n e).0 here,
      (λ m i s. ⊎_elim (λ same. rw same (omega arith)) (λ rest. rising-member n ms r.1 m rest) (Memᴰ.cases_cons i)),
    ))
    (λ out. let (member, inside, least) = lowest-least e n ms r.1 (rw out at h) in
    rw out (
      Memᴰ.tail member,
      inside,
      (λ m i s. ⊎_elim
          (λ same. absurd (true≢false (sym ((inside-exactly m e).1 s) ∙ rw same out)))
          (λ rest. least m rest s)
          (Memᴰ.cases_cons i)),
    ))
    (told (strictly_inside n e))

-- by index: the first one strictly inside, where those before it are not past the start; and none
lowest-at : (e : Entry) (ms : List ℕ) (k : ℕ) → k < length ms → ((i : ℕ) → i < k → get_or ms i 0 ≤ e.position)
    → StrictlyInside (get_or ms k 0) e → lowest_inside e ms ≡ get_or ms k 0
unfolding lowest_inside
lowest-at e [] k m low s = absurd (omega arith)
lowest-at e (n ∷ ms) zero m low s = rw ((inside-exactly n e).1 s)
lowest-at e (n ∷ ms) (suc k) m low s =
    rw (not-inside n e (λ t. let h = low 0 (omega arith) in omega (arith, t.0, h)))
    (lowest-at e ms k (le_of_suc-le-suc m) (λ i h. low (suc i) (omega arith)) s)

lowest-none : (e : Entry) (ms : List ℕ) → ((i : ℕ) → i < length ms → StrictlyInside (get_or ms i 0) e → ⊥) → lowest_inside e ms ≡ e.position
unfolding lowest_inside
lowest-none e [] out = refl
lowest-none e (n ∷ ms) out =
    rw (not-inside n e (out 0 (omega arith))) (lowest-none e ms (λ i h. out (suc i) (omega arith)))

-- as a search by halves finds it: k marks are not past the offer's start
module _ (e : Entry) (ms : List ℕ) (r : Rising 0 ms) (k : ℕ) (at : k ≡ count_below (e.position + 1) ms) where
  pub low : (i : ℕ) → i < k → get_or ms i 0 ≤ e.position
  low i h = let s = counted-below (e.position + 1) 0 ms r i (omega (arith, at)) in omega (arith, s)

  pub lowest-past : length ms ≤ k → lowest_inside e ms ≡ e.position
  lowest-past h = lowest-none e ms (λ i m s. let l = low i (omega arith) in omega (arith, l, s.0))

  module _ (m : k < length ms) where
    pub first_past : e.position < get_or ms k 0
    first_past = let up = counted-above (e.position + 1) 0 ms r k (omega (arith, at)) m in omega (arith, up)

    pub lowest-here : get_or ms k 0 < end e → lowest_inside e ms ≡ get_or ms k 0
    lowest-here h = lowest-at e ms k m low (first_past, h)

    pub lowest-far : end e ≤ get_or ms k 0 → lowest_inside e ms ≡ e.position
    lowest-far h =
        lowest-none e ms
        (λ i inside s. ⊎_elim (λ less. let l = low i less in omega (arith, l, s.0))
        (λ more. ⊎_elim (λ less. let o = rising-ordered 0 ms r k i less inside in omega (arith, o, h, s.1))
        (λ same. let eq : i ≡ k = omega arith in let t : get_or ms k 0 < end e = rw eq at s.1 in omega (arith, t, h))
        (lt-or-le k i))
        (lt-or-le i k))

-- ---- marks that are not at fault

pub record Lies (l : List Entry) (floor m : ℕ) : Type 0 where
  pub above : floor ≤ m
  pub within : m ≤ max_offer
  pub outside : clashes_any (interval m 0) l ≡ false

abbrev pub Resting : List Entry → ℕ → List ℕ → Type 0
Resting l floor [] = Unit {0}
Resting l floor (m ∷ ms) = Lies l floor m × Resting l m ms

pub lies : (l : List Entry) (floor m : ℕ) → mark_at_fault l floor m ≡ false → Lies l floor m
unfolding mark_at_fault
lies l floor m h =
    let (limit, rest) = neither _ _ h in
    let (low, out) = neither _ _ rest in
    record { above = ltb-false _ _ low; within = ltb-false _ _ limit; outside = out }

pub no-mark-fault : (l : List Entry) (floor m : ℕ) → Lies l floor m → mark_at_fault l floor m ≡ false
unfolding mark_at_fault
no-mark-fault l floor m s = or-none (le-ltb _ _ s.within) (or-none (le-ltb _ _ s.above) s.outside)

pub mark-fault-le : (l : List Entry) (floor : ℕ) (ms : List ℕ) → first_mark_fault l floor ms ≤ length ms
unfolding first_mark_fault
mark-fault-le l floor [] = omega arith
mark-fault-le l floor (m ∷ ms) =
    ⊎_elim (λ h. rw h (omega arith)) (λ h. rw h (let r : first_mark_fault l m ms ≤ length ms = mark-fault-le l m ms in omega arith))
    (told (mark_at_fault l floor m))

pub resting : (l : List Entry) (floor : ℕ) (ms : List ℕ) → first_mark_fault l floor ms ≡ length ms → Resting l floor ms
unfolding first_mark_fault
resting l floor [] h = tt
resting l floor (m ∷ ms) h =
    ⊎_elim (λ t. let g : ◌≡◌ {A = ℕ} 0 (suc (length ms)) = rw t at h in absurd (omega arith))
    (λ t. (lies l floor m t, resting l m ms (suc_inj (rw t at h))))
    (told (mark_at_fault l floor m))

pub orderly : (l : List Entry) (floor : ℕ) (ms : List ℕ) → Resting l floor ms → first_mark_fault l floor ms ≡ length ms
unfolding first_mark_fault
orderly l floor [] a = refl
orderly l floor (m ∷ ms) a = rw (no-mark-fault l floor m a.0) (ap suc (orderly l m ms a.1))

pub resting-rising : (l : List Entry) (floor : ℕ) (ms : List ℕ) → Resting l floor ms → Rising floor ms
resting-rising l floor [] a = tt
resting-rising l floor (m ∷ ms) a = (a.0.above, resting-rising l m ms a.1)

pub lies_at : (l : List Entry) (floor : ℕ) (ms : List ℕ) → Resting l floor ms → (i : ℕ) → i < length ms → Lies l floor (get_or ms i 0)
lies_at l floor [] a i h = absurd (omega arith)
lies_at l floor (m ∷ ms) a zero h = a.0
lies_at l floor (m ∷ ms) a (suc i) h =
    let s = lies_at l m ms a.1 i (le_of_suc-le-suc h) in
    record { above = omega (arith, a.0.above, s.above); within = s.within; outside = s.outside }

-- a scan: at a mark at fault, past one that is not, and at the end
module _ (l : List Entry) (floor : ℕ) (ms : List ℕ) (i : ℕ) where
  pub mark-fault-here : i < length ms → mark_at_fault l floor (get_or ms i 0) ≡ true → first_mark_fault l floor (drop i ms) ≡ 0
  unfolding first_mark_fault
  mark-fault-here m h = rw (drop-cons ms i 0 m, h)

  pub mark-fault-next : i < length ms → mark_at_fault l floor (get_or ms i 0) ≡ false
      → first_mark_fault l floor (drop i ms) ≡ suc (first_mark_fault l (get_or ms i 0) (drop (i + 1) ms))
  unfolding first_mark_fault
  mark-fault-next m h = rw (add-one, drop-cons ms i 0 m, h)

  pub mark-fault-none : length ms ≤ i → first_mark_fault l floor (drop i ms) ≡ 0
  unfolding first_mark_fault
  mark-fault-none m = rw (drop_of_length-le ms {i = i} m)

-- ---- something put in

any-put : (x e : Entry) (k : ℕ) (l : List Entry) → clashes_any x l ≡ false → clashes x e ≡ false → clashes_any x (put_at k e l) ≡ false
unfolding clashes_any
any-put x e zero l none apart = or-none apart none
any-put x e (suc k) [] none apart = or-none apart refl
any-put x e (suc k) (f ∷ l) none apart =
    let (here, rest) = neither (clashes x f) (clashes_any x l) none in
    or-none here (any-put x e k l rest apart)

-- an interval put in, that no mark is strictly inside of
pub resting-inserted : (l : List Entry) (e : Entry) (floor : ℕ) (ms : List ℕ) → Resting l floor ms → crosses_any e ms ≡ false
    → Resting (inserted l e) floor ms
unfolding crosses_any
resting-inserted l e floor [] a none = tt
resting-inserted l e floor (m ∷ ms) a none =
    let (here, rest) = neither _ _ none in
    let apart : clashes (interval m 0) e ≡ false =
    ⊎_elim (λ hit. absurd (true≢false (sym ((inside-exactly m e).1 ((clash-empty-exactly (interval m 0) e refl).0 hit)) ∙ here))) (λ out. out)
    (told (clashes (interval m 0) e)) in (
      record {
        above = a.0.above;
        within = a.0.within;
        outside = any-put (interval m 0) e (place_for e.position l) l a.0.outside apart;
      },
      resting-inserted l e m ms a.1 rest,
    )

-- ---- resting is proper

pub resting-proper : (l : List Entry) (ms : List ℕ) → Resting l 0 ms → ProperMarks l ms
resting-proper l ms a =
    record {
      within = λ i m. (lies_at l 0 ms a i m).within;
      ordered = rising-ordered 0 ms (resting-rising l 0 ms a);
      outside = λ i m f member s.
          true≢false
          (sym (any_of (interval (get_or ms i 0) 0) l f member ((clash-empty-exactly (interval (get_or ms i 0) 0) f refl).1 s))
          ∙ (lies_at l 0 ms a i m).outside);
    }

proper-rests : (l : List Entry) (floor : ℕ) (ms : List ℕ) → ProperMarks l ms → ((i : ℕ) → i < length ms → floor ≤ get_or ms i 0)
    → Resting l floor ms
proper-rests l floor [] p low = tt
proper-rests l floor (m ∷ ms) p low = (
  record {
    above = low 0 (omega arith);
    within = p.within 0 (omega arith);
    outside =
        ⊎_elim
        (λ hit. let (f, member, c) = any_found (interval m 0) l hit in
        absurd (p.outside 0 (omega arith) f member ((clash-empty-exactly (interval m 0) f refl).0 c)))
        (λ out. out)
        (told (clashes_any (interval m 0) l));
  },
  proper-rests l m ms
      (record {
        within = λ i h. p.within (suc i) (omega arith);
        ordered = λ i j h k. p.ordered (suc i) (suc j) (omega arith) (omega arith);
        outside = λ i h. p.outside (suc i) (omega arith);
      })
      (λ i h. p.ordered 0 (suc i) (omega arith) (omega arith)),
)

pub proper-resting : (l : List Entry) (ms : List ℕ) → ProperMarks l ms → Resting l 0 ms
proper-resting l ms p = proper-rests l 0 ms p (λ i h. omega arith)
