-- Theorems about what Calls defines.
use Rattle.std.specs.Prelude.{◌≡◌, true, List, ℕ, ◌≤◌, length, Result}
use Rattle.std.proofs.Common.{arith}
use Rattle.prelude.specs.declared.Refusal.{Refusal}
use Rattle.bitvec.specs.Bits.{Bytes}
use Rattle.record_write.specs.Checks.{all_parts, all_placed}
use Rattle.record_write.specs.Cut.{blocks_in}
use Rattle.record_write.specs.Text.{text_of}
use Rattle.record_write.specs.Hex.{WritesHex}
use Rattle.record_write.specs.Srec.{WritesSrec}
use Rattle.thm_record_room.specs.Theorems.Room.{records-length}
use Rattle.thm_record_room.specs.Calls.{NotShort}
use Rattle.thm_record_room.specs.Laws.Calls.{blocks-in, hex-fits, srec-fits}

-- The flash station's program, and the one that turns records around: what each lends.
module _ (image offsets sizes : List ℕ) (load : ℕ) (old : List ℕ) (good : Bytes image) (few : length offsets ≤ 4096) where
  abbrev Fit : Type 0
  Fit = (format : ℕ) → all_parts (length image) (blocks_in offsets sizes) ≡ true → all_placed load (blocks_in offsets sizes) ≡ true
      → length (text_of format load image (blocks_in offsets sizes)) ≤ length old

  at-station : length image ≤ 16384 → 131072 ≤ length old → Fit
  at-station h room format p q =
      omega (arith, records-length format load image (blocks_in offsets sizes) good p q, blocks-in offsets sizes)

  at-turning : length image ≤ 1048576 → 3145728 ≤ length old → Fit
  at-turning h room format p q =
      omega (arith, records-length format load image (blocks_in offsets sizes) good p q, blocks-in offsets sizes)

  module _ {r : Result ℕ Refusal} {new : List ℕ} where
    pub station-hex : length image ≤ 16384 → 131072 ≤ length old → WritesHex image offsets sizes load old r new → NotShort r
    station-hex h room = hex-fits image offsets sizes load old (at-station h room)

    pub station-srec : {width : ℕ} → length image ≤ 16384 → 131072 ≤ length old → WritesSrec image offsets sizes load width old r new → NotShort r
    station-srec h room = srec-fits image offsets sizes load old (at-station h room)

    pub turned-hex : length image ≤ 1048576 → 3145728 ≤ length old → WritesHex image offsets sizes load old r new → NotShort r
    turned-hex h room = hex-fits image offsets sizes load old (at-turning h room)

    pub turned-srec : {width : ℕ} → length image ≤ 1048576 → 3145728 ≤ length old → WritesSrec image offsets sizes load width old r new → NotShort r
    turned-srec h room = srec-fits image offsets sizes load old (at-turning h room)
