-- Laws that Theorems/Ascending rests on.
use Rattle.std.specs.Prelude.{◌≡◌, refl, ◌⊎◌, Bool, true, false, ◌||◌, List, [], ◌∷◌, ℕ, zero, suc, ◌+◌, ◌≤◌, ◌<◌, ltb, length, drop}
use Rattle.std.proofs.Common.{inl, inr, ⊎_elim, le_of_suc-le-suc, add-one, arith, ltb-true, ltb-false, drop_of_length-le}
use Rattle.std.proofs.Math.Seq.{drop-cons}
use Rattle.overlap_checker.specs.declared.Entry.{Entry}
use Rattle.overlap_checker.specs.Interval.{interval, end}
use Rattle.overlap_checker.specs.Stored.{at_fault, first_fault}
use Rattle.overlap_checker.specs.Entries.{entry_at}
use Rattle.overlap_checker.specs.Ascending.{Ascending, Sits}

-- a test says yes or no
pub told : (b : Bool) → (b ≡ true) ⊎ (b ≡ false)
told true = inl refl
told false = inr refl

pub lt-or-le : (a b : ℕ) → (a < b) ⊎ (b ≤ a)
lt-or-le a b = ⊎_elim (λ e. inl (ltb-true a b e)) (λ e. inr (ltb-false a b e)) (told (ltb a b))

pub or-none : {a b : Bool} → a ≡ false → b ≡ false → (a || b) ≡ false
or-none {a} {b} p q = rw (p, q)

pub fault-le : (floor : ℕ) (l : List Entry) → first_fault floor l ≤ length l
unfolding first_fault
fault-le floor [] = omega arith
fault-le floor (e ∷ l) =
    ⊎_elim (λ h. rw h (omega arith)) (λ h. rw h (let r : first_fault (end e) l ≤ length l = fault-le (end e) l in omega arith))
    (told (at_fault floor e))

-- a scan: at an entry at fault, past one that is not, and at the end
module _ (floor : ℕ) (l : List Entry) (i : ℕ) where
  pub fault-here : i < length l → at_fault floor (entry_at l i) ≡ true → first_fault floor (drop i l) ≡ 0
  unfolding first_fault
  fault-here m h = rw (drop-cons l i (interval 0 0) m, h)

  pub fault-next : i < length l → at_fault floor (entry_at l i) ≡ false
      → first_fault floor (drop i l) ≡ suc (first_fault (end (entry_at l i)) (drop (i + 1) l))
  unfolding first_fault
  fault-next m h = rw (add-one, drop-cons l i (interval 0 0) m, h)

  pub fault-none : length l ≤ i → first_fault floor (drop i l) ≡ 0
  unfolding first_fault
  fault-none m = rw (drop_of_length-le l {i = i} m)

-- every entry sits above the floor
pub sits-at : (floor : ℕ) (l : List Entry) → Ascending floor l → (i : ℕ) → i < length l → Sits floor (entry_at l i)
sits-at floor [] a i h = absurd (omega arith)
sits-at floor (e ∷ l) a zero h = a.0
sits-at floor (e ∷ l) a (suc i) h =
    let s = sits-at (end e) l a.1 i (le_of_suc-le-suc h) in
    record { above = omega (arith, a.0.above, s.above); nonempty = s.nonempty; within = s.within }

-- an entry ends where a later one starts, or before
pub ends-before : (floor : ℕ) (l : List Entry) → Ascending floor l → (i j : ℕ) → i < j → j < length l
    → end (entry_at l i) ≤ (entry_at l j).position
ends-before floor [] a i j h k = absurd (omega arith)
ends-before floor (e ∷ l) a i zero h k = absurd (omega arith)
ends-before floor (e ∷ l) a zero (suc j) h k = (sits-at (end e) l a.1 j (le_of_suc-le-suc k)).above
ends-before floor (e ∷ l) a (suc i) (suc j) h k = ends-before (end e) l a.1 i j (le_of_suc-le-suc h) (le_of_suc-le-suc k)
