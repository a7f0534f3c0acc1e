-- Theorems about what Cut defines.
use Rattle.std.specs.Prelude.{◌≡◌, ℕ, ◌+◌, ◌<◌, ◌≤◌, List, [], ◌∷◌, length, take, drop}
use Rattle.std.proofs.Common.{ap, not-suc-le-zero, le_refl, arith, length-drop}
use Rattle.record_lines.specs.Pieces.{Piece, piece}
use Rattle.record_write.specs.Cut.{cut, cut_in, piece_length}
use Rattle.record_write.specs.Laws.Cut.{turns-enough}

-- One piece, and the pieces of what is left.
pub cut-first : (address : ℕ) (l : List ℕ) → 0 < length l
    → cut address l ≡ piece address (take (piece_length address (length l)) l) ∷ cut (address + piece_length address (length l))
    (drop (piece_length address (length l)) l)
unfolding cut_in
cut-first address [] h = absurd (not-suc-le-zero h)
cut-first address (b ∷ l) h =
    let n = piece_length address (length (b ∷ l)) in
    let less : length (drop n (b ∷ l)) ≤ length l = omega (arith, length-drop n (b ∷ l)) in
    ap (λ (x : List Piece). piece address (take n (b ∷ l)) ∷ x)
    (turns-enough (length l) (length (drop n (b ∷ l))) (address + n) (drop n (b ∷ l)) less (le_refl (length (drop n (b ∷ l)))))
