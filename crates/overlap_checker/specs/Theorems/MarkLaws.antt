-- Marks against an interval and against the stored ones: which is the lowest strictly inside, when none is, and what keeps marks in order and
-- outside.
use Rattle.std.specs.Prelude.{◌≡◌, List, [], ◌∷◌, ℕ, ltb}
use Rattle.std.proofs.Common.{sym, ⊎_elim, arith, lt-ltb, le-ltb}
use Rattle.overlap_checker.specs.declared.Entry.{Entry}
use Rattle.overlap_checker.specs.Interval.{strictly_inside}
use Rattle.overlap_checker.specs.Marks.{crosses_any, lowest_inside}
use Rattle.overlap_checker.specs.Laws.Ascending.{told}
use Rattle.overlap_checker.specs.Theorems.Bits.{inside-exactly}

-- the lowest lies past the offer's start exactly when some mark is strictly inside
pub lowest-tells : (e : Entry) (ms : List ℕ) → crosses_any e ms ≡ ltb e.position (lowest_inside e ms)
unfolding crosses_any lowest_inside
lowest-tells e [] = sym (le-ltb e.position e.position (omega arith))
lowest-tells e (m ∷ ms) =
    ⊎_elim (λ here. rw here (sym (lt-ltb e.position m ((inside-exactly m e).0 here).0)))
    (λ out. rw out (lowest-tells e ms))
    (told (strictly_inside m e))
