-- The pieces of blocks that are parts of an image, ascend and share no bit: none is empty, none has more than 16 bytes, and each ends before the next begins.
use Rattle.std.specs.Prelude.{◌≡◌, ℕ, true, List, length}
use Rattle.bitvec.specs.Bits.{Bytes}
use Rattle.blocks.specs.declared.Block.{Block}
use Rattle.record_lines.specs.Telling.{Rises}
use Rattle.record_write.specs.Checks.{all_parts, all_placed}
use Rattle.record_write.specs.Cut.{blocks_in, pieces_of}
use Rattle.record_write.specs.Exactly.{AllParts, WellPlaced}
use Rattle.record_write.specs.Theorems.Exactly.{parts-exactly, placed-all}
use Rattle.record_write.specs.Laws.Rising.{all-low, rise-below}

pub pieces-rise : (load : ℕ) (image : List ℕ) (blocks : List Block) → Bytes image → all_parts (length image) blocks ≡ true → all_placed load blocks ≡ true
    → Rises 4294967296 load (pieces_of load image blocks)
pieces-rise load image blocks good p q = rise-below 4294967296 load image good blocks p q (all-low load blocks q)

-- Of blocks as they are lent: the pieces ascend from the load address on and end at 2^32 at the latest, whatever the format.
pub file-rises : (image offsets sizes : List ℕ) (load : ℕ) → Bytes image → AllParts (length image) offsets sizes → WellPlaced load offsets sizes
    → Rises 4294967296 load (pieces_of load image (blocks_in offsets sizes))
file-rises image offsets sizes load good parts places =
    pieces-rise load image (blocks_in offsets sizes) good ((parts-exactly (length image) offsets sizes).1 parts) (placed-all load offsets sizes places)
