-- Laws that Theorems/WhoIsNamed rests on.
use Rattle.std.specs.Prelude.{◌≡◌, refl, true, false, ℕ, zero, suc, ◌-◌, ◌≤◌, ◌<◌, length}
use Rattle.std.proofs.Common.{sym, ap, ◌∙◌, subst, inl, inr, ⊎_elim, true≢false, le_refl}
use mathlib.Core.List.Memᴰ
use mathlib.Core.List.{List, [], ◌∷◌, Memᴰ}
use native.Mathlib.Omega.{arith}
use Rattle.std.proofs.Math.ListN.{get_or-eq_default}
use Rattle.overlap_checker.specs.declared.Entry.{Entry}
use Rattle.overlap_checker.specs.Entries.{entry_at}
use Rattle.overlap_checker.specs.Interval.{interval, clashes}
use Rattle.overlap_checker.specs.Naming.{IsNamed, Named}
use Rattle.overlap_checker.specs.Marks.{crosses_any, lowest_inside}
use Rattle.overlap_checker.specs.State.{State, meets}
use Rattle.overlap_checker.specs.Rising.{Rising}
use Rattle.overlap_checker.specs.Laws.MarkLaws.{lowest-least}
use Rattle.overlap_checker.specs.Theorems.Answers.{hit-either}
use Rattle.overlap_checker.specs.Offers.{place_for, clashes_any, named}
use Rattle.overlap_checker.specs.Laws.Ascending.{told, lt-or-le, ends-before}
use Rattle.overlap_checker.specs.Ascending.{Ascending}
use Rattle.overlap_checker.specs.Laws.Bits.{any_of}
use Rattle.overlap_checker.specs.Laws.Neighbours.{place-le, starts-below, starts-above, empty-apart, before-is, clear_above, free}

-- ---- members and indices

member-at : (l : List Entry) (i : ℕ) → i < length l → Memᴰ (entry_at l i) l
member-at [] i m = absurd (omega arith)
member-at (f ∷ l) zero m = Memᴰ.head refl
member-at (f ∷ l) (suc i) m = Memᴰ.tail (member-at l i (omega arith))

index_of : (g : Entry) (l : List Entry) → Memᴰ g l → (i : ℕ) × (i < length l) × (entry_at l i ≡ g)
index_of g [] m = absurd (Memᴰ.not-nil m)
index_of g (f ∷ l) m =
    ⊎_elim (λ same. (0, omega arith, sym same)) (λ rest. let (i, h, e) = index_of g l rest in (suc i, omega arith, e))
    (Memᴰ.cases_cons m)

-- what holds of every index holds of every member
each : (P : Entry → Type 0) (l : List Entry) → ((i : ℕ) → i < length l → P (entry_at l i)) → (g : Entry) → Memᴰ g l → P g
each P l h g m = let (i, inside, e) = index_of g l m in subst P e (h i inside)

-- ---- the rule, for an offer `e` with the place k

module _ (l : List Entry) (a : Ascending 0 l) (e : Entry) (k : ℕ) (at : k ≡ place_for e.position l) where
  -- starts ascend with the index
  starts-ascend : (i j : ℕ) → i ≤ j → j < length l → (entry_at l i).position ≤ (entry_at l j).position
  starts-ascend i j h m =
      ⊎_elim (λ less. omega (arith, ends-before 0 l a i j less m))
      (λ same. let eq : i ≡ j = omega arith in rw eq (le_refl (entry_at l j).position))
      (lt-or-le i j)

  -- an entry starts at or above the offer exactly from the place on
  from_place : (i : ℕ) → e.position ≤ (entry_at l i).position → k ≤ i
  from_place i h =
      ⊎_elim (λ less. absurd (omega (arith, starts-below e.position 0 l a i (omega arith)))) (λ out. out) (lt-or-le i k)

  before-place : (i : ℕ) → i < length l → (entry_at l i).position < e.position → i < k
  before-place i m h =
      ⊎_elim (λ out. out) (λ more. absurd (omega (arith, starts-above e.position 0 l a i (omega arith) m))) (lt-or-le i k)

  named-above : clashes e (entry_at l k) ≡ true → IsNamed l e (entry_at l k)
  named-above h =
      let inside : k < length l =
      ⊎_elim (λ m. m)
      (λ m. absurd (true≢false (sym h ∙ ap (λ (f : Entry). clashes e f) (get_or-eq_default l (interval 0 0) {n = k} m) ∙ empty-apart e)))
      (lt-or-le k (length l)) in
      record {
        member = member-at l k inside;
        clash = h;
        rule =
            inl
            (record {
              starts = starts-above e.position 0 l a k (omega arith) inside;
              lowest =
                  each (λ (g : Entry). e.position ≤ g.position → (entry_at l k).position ≤ g.position) l
                  (λ i m high. starts-ascend k i (from_place i high) m);
            });
      }

  named-below : 0 < k → clashes e (entry_at l k) ≡ false → clashes e (entry_at l (k - 1)) ≡ true → IsNamed l e (entry_at l (k - 1))
  named-below n over h =
      let inside : k - 1 < length l = omega (arith, place-le e.position l) in
      record {
        member = member-at l (k - 1) inside;
        clash = h;
        rule =
            inr
            (record {
              starts = starts-below e.position 0 l a (k - 1) (omega arith);
              highest =
                  each (λ (g : Entry). g.position < e.position → g.position ≤ (entry_at l (k - 1)).position) l
                  (λ i m low. starts-ascend i (k - 1) (let b = before-place i m low in omega arith) inside);
              otherwise =
                  each (λ (g : Entry). e.position ≤ g.position → clashes e g ≡ false) l
                  (λ i m high. clear_above l a e k at over i (from_place i high) m);
            });
      }

  -- Where the offer clashes with a stored interval, the interval named is the one that the rule says.
  pub named-is : clashes_any e l ≡ true → IsNamed l e (named l e)
  unfolding named
  named-is any =
      rw (← at)
      (⊎_elim (λ h. rw h (named-above h))
      (λ over. rw over
      (⊎_elim (λ n. rw (before-is l k n)
      (⊎_elim (λ h. named-below n over h)
      (λ under. absurd (true≢false (sym any ∙ free l a e k at over (rw (before-is l k n) under))))
      (told (clashes e (entry_at l (k - 1))))))
      (λ z. absurd
      (true≢false
      (sym any ∙ free l a e k at over (let zero-place : k ≡ 0 = omega arith in rw zero-place (empty-apart e)))))
      (lt-or-le 0 k)))
      (told (clashes e (entry_at l k))))

-- ---- the rule names one

-- ---- marks

pub apart_from : (e : Entry) (l : List Entry) → clashes_any e l ≡ false → (g : Entry) → Memᴰ g l → clashes e g ≡ false
apart_from e l none g m =
    ⊎_elim (λ hit. absurd (true≢false (sym (any_of e l g m hit) ∙ none))) (λ out. out) (told (clashes e g))

-- ---- what 12 names

-- Where the offer meets something, whoever is the named interval if one clashes, and the lowest mark inside if none does, is what the rules say.
pub named-by : (s : State) (e f : Entry) → Ascending 0 s.intervals → Rising 0 s.marks
    → (clashes_any e s.intervals ≡ true → f ≡ named s.intervals e) → (clashes_any e s.intervals ≡ false → f ≡ interval (lowest_inside e s.marks) 0)
    → meets s e ≡ true → Named s e f
named-by s e f up rise some bare hit =
    ⊎_elim
    (λ clash. rw (some clash) (inl (named-is s.intervals up e (place_for e.position s.intervals) refl clash)))
    (λ none. let cross : crosses_any e s.marks ≡ true =
    ⊎_elim (λ clash. absurd (true≢false (sym clash ∙ none))) (λ c. c) (hit-either s e hit) in
    let (member, inside, least) = lowest-least e 0 s.marks rise cross in
    rw (bare none)
    (inr
    (record { clear = apart_from e s.intervals none; member = member; empty = refl; inside = inside; lowest = least })))
    (told (clashes_any e s.intervals))
