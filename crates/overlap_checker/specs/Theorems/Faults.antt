-- What 15 and 4 mean. A store is sound exactly when its intervals are at most 512 and proper, said of all of them with bits, and so its marks; a call
-- is refused 15 exactly when its store is not sound, and 4 exactly when its store is and the offer is past the limits; and the place that 15 names is
-- the first interval, or else the first mark, with which those before it are not proper.
use Rattle.std.specs.Prelude.{◌≡◌, ◌↔◌, List, suc, ◌≤◌, ◌<◌, length, take}
use Rattle.prelude.specs.Limits.{max_stored}
use Rattle.overlap_checker.specs.declared.Entry.{Entry}
use Rattle.overlap_checker.specs.Stored.{first_fault, Proper}
use Rattle.overlap_checker.specs.Marks.{ProperMarks}
use Rattle.overlap_checker.specs.Laws.MarkLaws.{resting, orderly, resting-proper, proper-resting}
use Rattle.overlap_checker.specs.Lent.{Lent, held, held_marks, Sound}
use Rattle.overlap_checker.specs.Theorems.Ascending.{faultless, ascending}
use Rattle.overlap_checker.specs.Laws.Faults.{ascending-proper, first-splits, proper-ascending}

-- A store is sound exactly when it has at most 512 intervals and 512 marks and they are proper. (Its arrays have 512 places.)
pub sound-exactly : (a : Lent) → length a.positions ≡ max_stored → length a.sizes ≡ max_stored → length a.marks ≡ max_stored
    → Sound a ↔ ((a.count ≤ max_stored) × (a.mark_count ≤ max_stored) × Proper (held a) × ProperMarks (held a) (held_marks a))
sound-exactly a wide long broad = (
  (λ h. (
    h.few,
    h.few_marks,
    ascending-proper (held a) (ascending 0 (held a) h.faultless),
    resting-proper (held a) (held_marks a) (resting (held a) 0 (held_marks a) h.orderly),
  )),
  (λ h. record {
    few = h.0;
    wide = wide;
    long = long;
    faultless = faultless 0 (held a) (proper-ascending (held a) h.2);
    few_marks = h.1;
    broad = broad;
    orderly = orderly (held a) 0 (held_marks a) (proper-resting (held a) (held_marks a) h.3);
  }),
)

-- The entries before the first at fault are proper, and with it they are not.
pub first-fault-exactly : (l : List Entry) → first_fault 0 l < length l
    → Proper (take (first_fault 0 l) l) × (Proper (take (suc (first_fault 0 l)) l) → ⊥)
first-fault-exactly l h =
    let (before, with_it) = first-splits 0 l h in
    (ascending-proper (take (first_fault 0 l) l) before, (λ p. with_it (proper-ascending (take (suc (first_fault 0 l)) l) p)))
