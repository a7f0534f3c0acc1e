-- How long a file of records can be, by the image's length and the number of blocks: lines of at most 15 characters and two for each byte, a line for each
-- 64 KiB line that a piece begins, and the end record. So the flash station's programs lend room for every file that they can write.
use Rattle.std.specs.Prelude.{◌≡◌, true, List, ℕ, ◌+◌, ◌*◌, ◌/◌, ◌≤◌, length}
use Rattle.std.proofs.Common.{arith, length-append}
use Rattle.bitvec.specs.Bits.{Bytes}
use Rattle.blocks.specs.declared.Block.{Block}
use Rattle.record_write.specs.Checks.{all_parts, all_placed}
use Rattle.record_write.specs.Cut.{pieces_of}
use Rattle.record_write.specs.Laws.Rising.{rise-below}
use Rattle.record_write.specs.Text.{end_by, lines_from, text_of}
use Rattle.thm_record_room.specs.Laws.Pieces.{pieces-cost}
use Rattle.thm_record_room.specs.Laws.Room.{all_lines, end-few, ends_by}

-- The text of an image's blocks, by the image's length and how many blocks there are.
pub records-length : (format load : ℕ) (image : List ℕ) (blocks : List Block) → Bytes image → all_parts (length image) blocks ≡ true
    → all_placed load blocks ≡ true
    → 16 * length (text_of format load image blocks) ≤ 47 * length image + 225 * length blocks + 496 * (length image / 65536 + 2)
records-length format load image blocks good p q =
    let top = load + length image in
    let pieces = pieces_of load image blocks in
    let lines = all_lines format load top pieces (rise-below top load image good blocks p q (ends_by load image blocks p)) (omega arith) in
    let across : top / 65536 ≤ load / 65536 + (length image / 65536 + 1) = omega arith in
    omega (arith, length-append (lines_from format 0 pieces) (end_by format), end-few format, lines, pieces-cost load image blocks p q, across)

-- The flash station's program: 16,384 bytes in at most 4,096 blocks take no more than the 131,072 characters that it lends,
pub station-files-fit : (format load : ℕ) (image : List ℕ) (blocks : List Block) → Bytes image → all_parts (length image) blocks ≡ true
    → all_placed load blocks ≡ true → length image ≤ 16384 → length blocks ≤ 4096 → length (text_of format load image blocks) ≤ 131072
station-files-fit format load image blocks good p q few count = omega (arith, records-length format load image blocks good p q)

-- and the one that turns records around: 1,048,576 bytes in as many blocks fit its 3,145,728.
pub turned-files-fit : (format load : ℕ) (image : List ℕ) (blocks : List Block) → Bytes image → all_parts (length image) blocks ≡ true
    → all_placed load blocks ≡ true → length image ≤ 1048576 → length blocks ≤ 4096 → length (text_of format load image blocks) ≤ 3145728
turned-files-fit format load image blocks good p q few count = omega (arith, records-length format load image blocks good p q)
