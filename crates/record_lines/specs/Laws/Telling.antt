-- Laws that proofs about Telling need.
use Rattle.std.specs.Prelude.{ℕ, ◌≤◌, List, [], ◌∷◌}
use Rattle.std.proofs.Common.{arith}
use Rattle.record_lines.specs.Pieces.{Piece}
use Rattle.record_lines.specs.Telling.{Rises}

pub rises-lower : (top : ℕ) {from low : ℕ} (l : List Piece) → low ≤ from → Rises top from l → Rises top low l
rises-lower top [] h r = tt
rises-lower top {from} {low} (p ∷ l) h r =
    let s = r.0 in
    let above : low ≤ p.address = omega (arith, s.above) in
    (record { above = above; some = s.some; few = s.few; below = s.below; bytes = s.bytes }, r.1)
