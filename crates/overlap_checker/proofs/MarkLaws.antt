-- Marks put in at their places: theorems and laws about what `marked` of State defines.
use Rattle.std.specs.Prelude.{◌≡◌, ℕ, ◌+◌, length, List, [], ◌∷◌}
use Rattle.std.proofs.Common.{⊎_elim, arith, length-append, length-take, length-drop}
use Rattle.overlap_checker.specs.declared.Entry.{Entry}
use Rattle.overlap_checker.specs.Marks.{count_below}
use Rattle.overlap_checker.specs.State.{marked}
use Rattle.overlap_checker.specs.Laws.Ascending.{lt-or-le}
use Rattle.overlap_checker.specs.Laws.Rising.{count_none, count-one, count-le}
use Rattle.overlap_checker.specs.Laws.MarkLaws.{Lies, Resting, resting-rising}

-- a mark put in at its place
pub resting-marked : (l : List Entry) (p floor : ℕ) (ms : List ℕ) → Resting l floor ms → Lies l floor p → Resting l floor (marked ms p)
unfolding count_below
resting-marked l p floor [] a s = (s, tt)
resting-marked l p floor (m ∷ ms) a s =
    ⊎_elim
    (λ low. rw (count-one p m ms low)
    (a.0, resting-marked l p m ms a.1 (record { above = omega (arith, low); within = s.within; outside = s.outside })))
    (λ high. rw (count_none p m (m ∷ ms) (omega arith, resting-rising l m ms a.1) high)
    (s, (record { above = high; within = a.0.within; outside = a.0.outside }, a.1)))
    (lt-or-le m p)

pub length_marked : (ms : List ℕ) (p : ℕ) → length (marked ms p) ≡ length ms + 1
length_marked ms p =
    let low = count-le p ms in
    simp (length-append, length-take, length-drop) (omega arith)
