-- Laws that Theorems/Checks rests on.
use Rattle.std.specs.Prelude.{◌≡◌, true, false, ℕ, ◌≤◌, ◌<◌, ltb, length}
use Rattle.std.proofs.Common.{sym, ap, ◌∙◌, ⊎_elim, arith}
use Rattle.std.proofs.Math.Bool.{or-true}
use borrow.Author.Tests.{lt-ltb, le-ltb}
use Rattle.prelude.specs.Limits.{max_stored}
use Rattle.prelude.specs.Pick.{pick}
use Rattle.prelude.specs.Laws.Pick.{pick_true, pick-false}
use Rattle.overlap_checker.specs.declared.Entry.{Entry}
use Rattle.overlap_checker.specs.Interval.{past_limits}
use Rattle.overlap_checker.specs.Stored.{first_fault}
use Rattle.overlap_checker.specs.Marks.{first_mark_fault}
use Rattle.overlap_checker.specs.Laws.MarkLaws.{mark-fault-le}
use Rattle.overlap_checker.specs.Lent.{Lent, held, held_marks, Sound, checks}
use Rattle.overlap_checker.specs.Laws.Ascending.{told, lt-or-le, fault-le}

-- what stands where 15 has nothing to say
pub record Fine (a : Lent) : Type 0 where
  pub few : a.count ≤ max_stored
  pub few_marks : a.mark_count ≤ max_stored
  pub none : length (held a) ≤ first_fault 0 (held a)
  pub bare : length (held_marks a) ≤ first_mark_fault (held a) 0 (held_marks a)

pub sound-fine : (a : Lent) → Sound a → Fine a
sound-fine a s = record { few = s.few; few_marks = s.few_marks; none = omega (arith, s.faultless); bare = omega (arith, s.orderly) }

pub fine-sound : (a : Lent) → length a.positions ≡ max_stored → length a.sizes ≡ max_stored → length a.marks ≡ max_stored → Fine a → Sound a
fine-sound a wide long broad f =
    record {
      few = f.few;
      wide = wide;
      long = long;
      faultless = omega (arith, fault-le 0 (held a), f.none);
      few_marks = f.few_marks;
      broad = broad;
      orderly = omega (arith, mark-fault-le (held a) 0 (held_marks a), f.bare);
    }

module _ (a : Lent) (e : Entry) {X : Type 0} (bad : ℕ → X) (malformed otherwise : X) where
  pub checks-count : max_stored < a.count → checks a e bad malformed otherwise ≡ bad max_stored
  unfolding checks
  checks-count h = rw (lt-ltb max_stored a.count h)

  pub checks-mark-count : max_stored < a.mark_count → checks a e bad malformed otherwise ≡ bad max_stored
  unfolding checks
  checks-mark-count h = rw (lt-ltb max_stored a.mark_count h, or-true (ltb max_stored a.count))

  module _ (few : a.count ≤ max_stored) (few_marks : a.mark_count ≤ max_stored) where
    pub checks-fault : first_fault 0 (held a) < length (held a) → checks a e bad malformed otherwise ≡ bad (first_fault 0 (held a))
    unfolding checks
    checks-fault f =
        rw (le-ltb max_stored a.count few, le-ltb max_stored a.mark_count few_marks, lt-ltb (first_fault 0 (held a)) (length (held a)) f)

    pub checks-mark-fault : length (held a) ≤ first_fault 0 (held a) → first_mark_fault (held a) 0 (held_marks a) < length (held_marks a)
        → checks a e bad malformed otherwise ≡ bad (first_mark_fault (held a) 0 (held_marks a))
    unfolding checks
    checks-mark-fault none f =
        rw (
          le-ltb max_stored a.count few,
          le-ltb max_stored a.mark_count few_marks,
          le-ltb (first_fault 0 (held a)) (length (held a)) none,
          lt-ltb (first_mark_fault (held a) 0 (held_marks a)) (length (held_marks a)) f,
        )

  module _ (f : Fine a) where
    checks-rest : checks a e bad malformed otherwise ≡ pick (past_limits e) malformed otherwise
    unfolding checks
    checks-rest =
        rw (
          le-ltb max_stored a.count f.few,
          le-ltb max_stored a.mark_count f.few_marks,
          le-ltb (first_fault 0 (held a)) (length (held a)) f.none,
          le-ltb (first_mark_fault (held a) 0 (held_marks a)) (length (held_marks a)) f.bare,
        )

    pub checks-limits : past_limits e ≡ true → checks a e bad malformed otherwise ≡ malformed
    checks-limits h = checks-rest ∙ pick_true malformed otherwise h

    pub checks-passes : past_limits e ≡ false → checks a e bad malformed otherwise ≡ otherwise
    checks-passes h = checks-rest ∙ pick-false malformed otherwise h

-- one of six
pub six-ways : (a : Lent) (e : Entry) {Y : Type 0} → (max_stored < a.count → Y) → (a.count ≤ max_stored → max_stored < a.mark_count → Y)
    → (a.count ≤ max_stored → a.mark_count ≤ max_stored → first_fault 0 (held a) < length (held a) → Y)
    → (a.count ≤ max_stored → a.mark_count ≤ max_stored → length (held a) ≤ first_fault 0 (held a)
    → first_mark_fault (held a) 0 (held_marks a) < length (held_marks a) → Y)
    → (Fine a → past_limits e ≡ true → Y) → (Fine a → past_limits e ≡ false → Y) → Y
six-ways a e many marks fault mark past fine =
    ⊎_elim many
    (λ few. ⊎_elim (marks few)
    (λ few_marks. ⊎_elim (fault few few_marks)
    (λ none. ⊎_elim (mark few few_marks none)
    (λ bare. let f : Fine a = record { few = few; few_marks = few_marks; none = none; bare = bare } in
    ⊎_elim (past f) (fine f) (told (past_limits e)))
    (lt-or-le (first_mark_fault (held a) 0 (held_marks a)) (length (held_marks a))))
    (lt-or-le (first_fault 0 (held a)) (length (held a))))
    (lt-or-le max_stored a.mark_count))
    (lt-or-le max_stored a.count)

pub checks-map : (a : Lent) (e : Entry) {X Y : Type 0} (f : X → Y) (bad : ℕ → X) (malformed otherwise : X)
    → f (checks a e bad malformed otherwise) ≡ checks a e (λ (n : ℕ). f (bad n)) (f malformed) (f otherwise)
checks-map a e f bad malformed otherwise =
    six-ways a e
    (λ h. ap f (checks-count a e bad malformed otherwise h) ∙ sym (checks-count a e (λ (n : ℕ). f (bad n)) (f malformed) (f otherwise) h))
    (λ g h. ap f (checks-mark-count a e bad malformed otherwise h) ∙ sym (checks-mark-count a e (λ (n : ℕ). f (bad n)) (f malformed) (f otherwise) h))
    (λ g h i. ap f (checks-fault a e bad malformed otherwise g h i) ∙ sym (checks-fault a e (λ (n : ℕ). f (bad n)) (f malformed) (f otherwise) g h i))
    (λ g h i j. ap f (checks-mark-fault a e bad malformed otherwise g h i j)
    ∙ sym (checks-mark-fault a e (λ (n : ℕ). f (bad n)) (f malformed) (f otherwise) g h i j))
    (λ g h. ap f (checks-limits a e bad malformed otherwise g h) ∙ sym (checks-limits a e (λ (n : ℕ). f (bad n)) (f malformed) (f otherwise) g h))
    (λ g h. ap f (checks-passes a e bad malformed otherwise g h) ∙ sym (checks-passes a e (λ (n : ℕ). f (bad n)) (f malformed) (f otherwise) g h))
