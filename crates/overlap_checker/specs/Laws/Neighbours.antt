-- Why two neighbours settle an offer: the entries before its place start below it, those from there on at or above it, and a clash
-- with a farther entry would be one with the nearer.
use Rattle.std.specs.Prelude.{◌≡◌, refl, true, false, List, [], ◌∷◌, ℕ, zero, suc, ◌+◌, ◌-◌, ◌≤◌, ◌<◌, min, max, ltb, length}
use Rattle.std.proofs.Common.{sym, ap, ◌∙◌, ⊎_elim, true≢false, le_of_suc-le-suc, eq-zero-or-pos, add-one, arith, lt-ltb, le-ltb, eq-eqb, ne_eqb}
use Rattle.std.proofs.Math.Bool.{and-false, or-true}
use Rattle.std.proofs.Math.ListN.{get_or-eq_default}
use Rattle.overlap_checker.specs.declared.Entry.{Entry}
use Rattle.overlap_checker.specs.Interval.{interval, end, shares_bit, strictly_inside, clashes}
use Rattle.overlap_checker.specs.Entries.{entry_at, entry_before}
use Rattle.overlap_checker.specs.Offers.{place_for, clashes_any, named}
use Rattle.overlap_checker.specs.Laws.Ascending.{told, lt-or-le, or-none, sits-at, ends-before}
use Rattle.overlap_checker.specs.Ascending.{Ascending}

-- ---- the place

pub place-le : (p : ℕ) (l : List Entry) → place_for p l ≤ length l
unfolding place_for
place-le p [] = omega arith
place-le p (f ∷ l) =
    let r = place-le p l in
    ⊎_elim (λ h. rw h (omega arith)) (λ h. rw h (omega arith)) (told (ltb f.position p))

-- where a search by halves ends
pub place_is : (p : ℕ) (l : List Entry) (k : ℕ) → k ≤ length l
    → ((i : ℕ) → i < k → (entry_at l i).position < p)
    → ((i : ℕ) → k ≤ i → i < length l → p ≤ (entry_at l i).position)
    → place_for p l ≡ k
unfolding place_for
place_is p [] k h below above = omega arith
place_is p (f ∷ l) zero h below above =
    rw (le-ltb f.position p (above 0 (omega arith) (omega arith)))
    (place_is p l 0 (omega arith) (λ i g. absurd (omega arith)) (λ i g m. above (suc i) (omega arith) (omega arith)))
place_is p (f ∷ l) (suc k) h below above =
    rw (lt-ltb f.position p (below 0 (omega arith)))
    (ap suc (place_is p l k (le_of_suc-le-suc h) (λ i g. below (suc i) (omega arith)) (λ i g m. above (suc i) (omega arith) (omega arith))))

module _ (p : ℕ) (f : Entry) (l : List Entry) {floor : ℕ} (a : Ascending floor (f ∷ l)) where
  -- the first entry's own start serves as a floor
  from_start : Ascending f.position (f ∷ l)
  from_start = (record { above = omega arith; nonempty = a.0.nonempty; within = a.0.within }, a.1)

  all_above : p ≤ f.position → (i : ℕ) → i < length (f ∷ l) → p ≤ (entry_at (f ∷ l) i).position
  all_above h i m = let s = sits-at f.position (f ∷ l) from_start i m in omega (arith, s.above)

  pub none_below : p ≤ f.position → place_for p (f ∷ l) ≡ 0
  none_below h = place_is p (f ∷ l) 0 (omega arith) (λ i g. absurd (omega arith)) (λ i g m. all_above h i m)

  pub one_below : f.position < p → place_for p (f ∷ l) ≡ suc (place_for p l)
  unfolding place_for
  one_below h = rw (lt-ltb f.position p h)

-- the entries before the place start below the position
pub starts-below : (p floor : ℕ) (l : List Entry) → Ascending floor l → (i : ℕ) → i < place_for p l → (entry_at l i).position < p
starts-below p floor [] a i h = absurd (let z : place_for p [] ≤ 0 = place-le p [] in omega arith)
starts-below p floor (f ∷ l) a zero h =
    ⊎_elim (λ g. g) (λ g. absurd (omega (arith, none_below p f l a g))) (lt-or-le f.position p)
starts-below p floor (f ∷ l) a (suc i) h =
    ⊎_elim (λ g. starts-below p (end f) l a.1 i (omega (arith, one_below p f l a g)))
    (λ g. absurd (omega (arith, none_below p f l a g)))
    (lt-or-le f.position p)

-- those from the place on start at or above it
pub starts-above : (p floor : ℕ) (l : List Entry) → Ascending floor l → (i : ℕ) → place_for p l ≤ i → i < length l
    → p ≤ (entry_at l i).position
starts-above p floor [] a i h m = absurd (omega arith)
starts-above p floor (f ∷ l) a zero h m =
    ⊎_elim (λ g. absurd (omega (arith, one_below p f l a g))) (λ g. g) (lt-or-le f.position p)
starts-above p floor (f ∷ l) a (suc i) h m =
    ⊎_elim (λ g. starts-above p (end f) l a.1 i (omega (arith, one_below p f l a g)) (le_of_suc-le-suc m))
    (λ g. all_above p f l a g (suc i) m)
    (lt-or-le f.position p)

-- ---- a clash

pub clash-above : (e f : Entry) → e.position ≤ f.position → 0 < f.size → f.position < end e → clashes e f ≡ true
unfolding clashes shares_bit
clash-above e f h n g =
    rw (ne_eqb e.size 0 (λ z. omega arith)) (lt-ltb (max e.position f.position) (min (end e) (end f)) (omega arith))

pub clash-below : (e f : Entry) → f.position < e.position → e.position < end f → clashes e f ≡ true
unfolding clashes shares_bit strictly_inside
clash-below e f h g =
    ⊎_elim (λ z. rw (eq-eqb e.size 0 z, lt-ltb f.position e.position h, lt-ltb e.position (end f) g))
    (λ n. rw (ne_eqb e.size 0 (λ z. omega arith)) (lt-ltb (max e.position f.position) (min (end e) (end f)) (omega arith)))
    (eq-zero-or-pos e.size)

-- an interval that ends where the other starts, or before
pub apart_below : (e f : Entry) → end f ≤ e.position → clashes e f ≡ false
unfolding clashes shares_bit strictly_inside
apart_below e f h =
    ⊎_elim (λ z. rw (eq-eqb e.size 0 z, le-ltb e.position (end f) h) (and-false (ltb f.position e.position)))
    (λ n. rw (ne_eqb e.size 0 (λ z. omega arith)) (le-ltb (max e.position f.position) (min (end e) (end f)) (omega arith)))
    (eq-zero-or-pos e.size)

pub apart_above : (e f : Entry) → e.position ≤ f.position → end e ≤ f.position → clashes e f ≡ false
unfolding clashes shares_bit strictly_inside
apart_above e f p h =
    ⊎_elim (λ z. rw (eq-eqb e.size 0 z, le-ltb f.position e.position p))
    (λ n. rw (ne_eqb e.size 0 (λ z. omega arith)) (le-ltb (max e.position f.position) (min (end e) (end f)) (omega arith)))
    (eq-zero-or-pos e.size)

pub any-clash : (e : Entry) (l : List Entry) (i : ℕ) → i < length l → clashes e (entry_at l i) ≡ true → clashes_any e l ≡ true
unfolding clashes_any
any-clash e [] i m h = absurd (omega arith)
any-clash e (f ∷ l) zero m h = rw h
any-clash e (f ∷ l) (suc i) m h = rw (any-clash e l i (le_of_suc-le-suc m) h) (or-true (clashes e f))

pub no-clash : (e : Entry) (l : List Entry) → ((i : ℕ) → i < length l → clashes e (entry_at l i) ≡ false) → clashes_any e l ≡ false
unfolding clashes_any
no-clash e [] h = refl
no-clash e (f ∷ l) h = or-none (h 0 (omega arith)) (no-clash e l (λ i m. h (suc i) (omega arith)))

-- so an interval that does not clash ends where the other starts, or before
pub ends_low : (e f : Entry) → clashes e f ≡ false → f.position < e.position → end f ≤ e.position
ends_low e f h low =
    ⊎_elim (λ inside. absurd (true≢false (sym (clash-below e f low inside) ∙ h))) (λ out. out) (lt-or-le e.position (end f))

pub ends-high : (e f : Entry) → clashes e f ≡ false → 0 < f.size → e.position ≤ f.position → end e ≤ f.position
ends-high e f h n high =
    ⊎_elim (λ inside. absurd (true≢false (sym (clash-above e f high n inside) ∙ h))) (λ out. out) (lt-or-le f.position (end e))

-- nothing clashes with what is not there
pub empty-apart : (e : Entry) → clashes e (interval 0 0) ≡ false
empty-apart e = apart_below e (interval 0 0) (omega arith)

pub any_at : (e : Entry) (l : List Entry) (i : ℕ) → clashes e (entry_at l i) ≡ true → clashes_any e l ≡ true
any_at e l i h =
    ⊎_elim (λ m. any-clash e l i m h)
    (λ m. absurd
    (true≢false (sym h ∙ ap (λ (f : Entry). clashes e f) (get_or-eq_default l (interval 0 0) {n = i} m) ∙ empty-apart e)))
    (lt-or-le i (length l))

pub any-before : (e : Entry) (l : List Entry) (k : ℕ) → clashes e (entry_before l k) ≡ true → clashes_any e l ≡ true
any-before e l zero h = absurd (true≢false (sym h ∙ empty-apart e))
any-before e l (suc i) h = any_at e l i h

pub before-next : (l : List Entry) (k : ℕ) → entry_before l (k + 1) ≡ entry_at l k
before-next l k = rw add-one

pub before-is : (l : List Entry) (k : ℕ) → 0 < k → entry_before l k ≡ entry_at l (k - 1)
before-is l zero h = absurd (omega arith)
before-is l (suc i) h = let e : suc i - 1 ≡ i = omega arith in rw e

-- ---- an offer `e` to ascending entries `l`, with its place k

module _ (l : List Entry) (e : Entry) (k : ℕ) (at : k ≡ place_for e.position l) where
  -- who is named: the one at the place if it clashes, otherwise the one below
  pub named-at : clashes e (entry_at l k) ≡ true → named l e ≡ entry_at l k
  unfolding named
  named-at h = rw (← at, h)

  pub named-before : clashes e (entry_at l k) ≡ false → named l e ≡ entry_before l k
  unfolding named
  named-before h = rw (← at, h)

module _ (l : List Entry) (a : Ascending 0 l) (e : Entry) (k : ℕ) (at : k ≡ place_for e.position l) where
  -- where the neighbour at or above does not clash, none from there on does
  module _ (over : clashes e (entry_at l k) ≡ false) where
    pub clear_above : (i : ℕ) → k ≤ i → i < length l → clashes e (entry_at l i) ≡ false
    clear_above i h m =
        let start = starts-above e.position 0 l a k (omega arith) (omega arith) in
        let past = ends-high e (entry_at l k) over (sits-at 0 l a k (omega arith)).nonempty start in
        ⊎_elim
        (λ more. let up = ends-before 0 l a k i more m in apart_above e (entry_at l i) (omega arith) (omega arith))
        (λ same. let eq : i ≡ k = omega arith in rw eq over)
        (lt-or-le k i)

    -- and where the one below does not either, no entry does
    module _ (under : clashes e (entry_before l k) ≡ false) where
      clear-below : (i : ℕ) → i < k → clashes e (entry_at l i) ≡ false
      clear-below i h =
          let j = k - 1 in
          let near : clashes e (entry_at l j) ≡ false = rw (before-is l k (omega arith)) at under in
          let low = starts-below e.position 0 l a j (omega arith) in
          ⊎_elim
          (λ less. apart_below e (entry_at l i) (omega (arith, ends-before 0 l a i j less (omega (arith, place-le e.position l)))))
          (λ same. let eq : i ≡ j = omega arith in rw eq near)
          (lt-or-le i j)

      pub free : clashes_any e l ≡ false
      free = no-clash e l (λ i m. ⊎_elim (λ h. clear-below i h) (λ h. clear_above i h m) (lt-or-le i k))

-- a position: the interval below it is the only one that it can be strictly inside of
pub mark-below : (l : List Entry) → Ascending 0 l → (m k : ℕ) → k ≡ place_for m l
    → clashes_any (interval m 0) l ≡ clashes (interval m 0) (entry_before l k)
mark-below l a m k at =
    ⊎_elim (λ hit. any-before (interval m 0) l k hit ∙ sym hit) (λ under. free l a (interval m 0) k at over under ∙ sym under)
    (told (clashes (interval m 0) (entry_before l k)))
  where
    over : clashes (interval m 0) (entry_at l k) ≡ false
    over =
        ⊎_elim
        (λ inside. apart_above (interval m 0) (entry_at l k) (starts-above m 0 l a k (omega (arith, at)) inside)
        (omega (arith, starts-above m 0 l a k (omega (arith, at)) inside)))
        (λ past. ap (λ (f : Entry). clashes (interval m 0) f) (get_or-eq_default l (interval 0 0) {n = k} past) ∙ empty-apart (interval m 0))
        (lt-or-le k (length l))
