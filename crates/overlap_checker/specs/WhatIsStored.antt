-- What is stored after any list of offers is exactly the accepted ones, as a permutation and by members: those of nonzero size among the
-- intervals, the positions of those of size 0 among the marks.
use mathlib.Core.List.{List, ◌∷◌, Permᴰ}
use mathlib.Core.List.Permᴰ
use Rattle.std.specs.Prelude.{ℕ, take, drop}
use Rattle.std.proofs.Common.{take-append-drop}
use Rattle.overlap_checker.specs.declared.Entry.{Entry}
use Rattle.overlap_checker.specs.Offers.{place_for}
use Rattle.overlap_checker.specs.State.{inserted, marked}
use Rattle.overlap_checker.specs.Marks.{count_below}

-- ---- one offer

-- an interval put in is one more among those stored
pub one_more : (l : List Entry) (e : Entry) → Permᴰ (inserted l e) (e ∷ l)
one_more l e =
    let place = place_for e.position l in
    rw (take-append-drop place l) at (Permᴰ.middle e (take place l) (drop place l))

pub one-more-mark : (ms : List ℕ) (m : ℕ) → Permᴰ (marked ms m) (m ∷ ms)
one-more-mark ms m =
    let place = count_below m ms in
    rw (take-append-drop place ms) at (Permᴰ.middle m (take place ms) (drop place ms))
