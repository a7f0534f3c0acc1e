-- Laws that Theorems/Cut rests on.
use Rattle.std.specs.Prelude.{◌≡◌, ℕ, zero, suc, ◌+◌, ◌≤◌, List, [], ◌∷◌, length, take, drop, refl}
use Rattle.std.proofs.Common.{ap, not-suc-le-zero, arith, length-drop}
use Rattle.record_lines.specs.Pieces.{Piece, piece}
use Rattle.record_write.specs.Cut.{cut_in, piece_length}

-- More turns than bytes change nothing.
pub turns-enough : (k m address : ℕ) (l : List ℕ) → length l ≤ k → length l ≤ m → cut_in k address l ≡ cut_in m address l
unfolding cut_in
turns-enough zero zero address l h g = refl
turns-enough zero (suc m) address [] h g = refl
turns-enough zero (suc m) address (b ∷ l) h g = absurd (not-suc-le-zero h)
turns-enough (suc k) zero address [] h g = refl
turns-enough (suc k) zero address (b ∷ l) h g = absurd (not-suc-le-zero g)
turns-enough (suc k) (suc m) address [] h g = refl
turns-enough (suc k) (suc m) address (b ∷ l) h g =
    let n = piece_length address (length (b ∷ l)) in
    let less : length (drop n (b ∷ l)) ≤ length l = omega (arith, length-drop n (b ∷ l)) in
    ap (λ (x : List Piece). piece address (take n (b ∷ l)) ∷ x) (turns-enough k m (address + n) (drop n (b ∷ l)) (omega arith) (omega arith))
