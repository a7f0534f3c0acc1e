-- Blocks cut into pieces. Document 02, Ticket 1: "Write the blocks of an image as data records, each as long as 16 bytes, its block and its
-- 64 KiB line allow"; "The first byte of a block goes to a load address from the caller plus offset / 8."
use Rattle.std.specs.Prelude.{ℕ, zero, suc, ◌+◌, ◌-◌, ◌/◌, ◌%◌, min, List, [], ◌∷◌, ◌++◌, length, take, drop}
use Rattle.blocks.specs.declared.Block.{Block}
use Rattle.blocks.specs.Walk.{block}
use Rattle.record_lines.specs.Pieces.{Piece, piece}

-- The least of 16 bytes, the rest of the block and the rest of the 64 KiB line.
abbrev pub piece_length : ℕ → ℕ → ℕ
piece_length address left = min 16 (min left (65536 - address % 65536))

-- The pieces of bytes from an address on, one after the other. No piece is empty, so that as many turns as there are bytes are enough.
unfoldable pub cut_in : ℕ → ℕ → List ℕ → List Piece
cut_in zero address bytes = []
cut_in (suc turns) address [] = []
cut_in (suc turns) address (b ∷ l) =
    let n = piece_length address (length (b ∷ l)) in
    piece address (take n (b ∷ l)) ∷ cut_in turns (address + n) (drop n (b ∷ l))

abbrev pub cut : ℕ → List ℕ → List Piece
cut address bytes = cut_in (length bytes) address bytes

-- The blocks that are lent as a list of offsets and a list of sizes, in bits.
unfoldable pub blocks_in : List ℕ → List ℕ → List Block
blocks_in [] sizes = []
blocks_in (o ∷ offsets) [] = []
blocks_in (o ∷ offsets) (s ∷ sizes) = block o s ∷ blocks_in offsets sizes

-- The bytes of a block, and the pieces of all blocks in their order.
abbrev pub bytes_in : List ℕ → Block → List ℕ
bytes_in image b = take (b.size / 8) (drop (b.origin / 8) image)

unfoldable pub pieces_of : ℕ → List ℕ → List Block → List Piece
pieces_of load image [] = []
pieces_of load image (b ∷ l) = cut (load + b.origin / 8) (bytes_in image b) ++ pieces_of load image l
