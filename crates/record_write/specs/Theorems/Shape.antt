-- Theorems about what Shape defines.
use Rattle.std.specs.Prelude.{ℕ, ◌+◌, ◌/◌, List, [], ◌∷◌, length, refl}
use mathlib.Core.List.Memᴰ
use mathlib.Core.List.{Memᴰ}
use Rattle.std.proofs.Common.{⊎_elim}
use Rattle.blocks.specs.declared.Block.{Block}
use Rattle.record_lines.specs.Pieces.{Piece}
use Rattle.record_write.specs.Cut.{cut, bytes_in, pieces_of}
use Rattle.record_write.specs.Laws.Shape.{cut-in-pieces}
use Rattle.record_write.specs.Shape.{BlockPiece}

pub pieces-long : (load : ℕ) (image : List ℕ) (blocks : List Block) (p : Piece) → Memᴰ p (pieces_of load image blocks) → BlockPiece load image blocks p
unfolding pieces_of
pieces-long load image [] p m = absurd (Memᴰ.not-nil m)
pieces-long load image (b ∷ l) p m =
    let bytes = bytes_in image b in
    ⊎_elim
    (λ k. record { of = b; among = Memᴰ.head refl; piece = cut-in-pieces (length bytes) (load + b.origin / 8) bytes p k })
    (λ k.
    let q = pieces-long load image l p k in
    record { of = q.of; among = Memᴰ.tail q.among; piece = q.piece })
    (Memᴰ.append_cases (cut (load + b.origin / 8) bytes) m)
