-- The file that `write_srec` leaves, at either width: what it says when it is read, and what it looks like.
use Rattle.std.specs.Prelude.{◌≡◌, ℕ, ◌^◌, List, length}
use Rattle.std.proofs.Common.{sym, subst}
use Rattle.bitvec.specs.Bits.{Bytes}
use Rattle.sort.specs.Agree.{All}
use Rattle.record_lines.specs.Lines.{lines_of}
use Rattle.record_lines.specs.Pieces.{Piece}
use Rattle.record_lines.specs.Telling.{Tells, Rises}
use Rattle.record_srec_line.specs.Srec.{srec_item}
use Rattle.record_srec_line.specs.ReadBack.{Width}
use Rattle.record_write.specs.Cut.{blocks_in, pieces_of}
use Rattle.record_write.specs.Exactly.{AllParts, WellPlaced, FitsWidth}
use Rattle.record_write.specs.Theorems.Exactly.{parts-exactly, placed-all}
use Rattle.record_write.specs.Laws.Said.{srec_lines}
use Rattle.record_write.specs.Theorems.Said.{srec-lines-cut, srec-tells}
use Rattle.record_write.specs.Shape.{Sound}
use Rattle.record_write.specs.Laws.Shape.{srec-lines-sound}
use Rattle.record_write.specs.Theorems.Width.{width_is}
use Rattle.record_write.specs.Laws.Width.{pieces-fit}
use Rattle.record_write.specs.Srec.{srec_of}

module _ (image offsets sizes : List ℕ) (load width : ℕ) (good : Bytes image) (parts : AllParts (length image) offsets sizes)
    (fits : FitsWidth width load offsets sizes) (places : WellPlaced load offsets sizes) where
  abbrev pieces : List Piece
  pieces = pieces_of load image (blocks_in offsets sizes)

  own : Width width
  own = width_is width load offsets sizes fits

  -- The pieces ascend from the load address on and end at the end of the addresses that the width has.
  pub file-fits : Rises (256 ^ width) load (pieces_of load image (blocks_in offsets sizes))
  file-fits =
      pieces-fit width load image offsets sizes good ((parts-exactly (length image) offsets sizes).1 parts) (placed-all load offsets sizes places) fits

  cut-lines : lines_of (srec_of image offsets sizes load width) ≡ srec_lines width pieces
  cut-lines = srec-lines-cut own load image (blocks_in offsets sizes) file-fits

  -- Its lines, read by the format's own rule, give the pieces of the blocks in their order, and then the file ends.
  pub file-tells : Tells srec_item 0 (lines_of (srec_of image offsets sizes load width)) (pieces_of load image (blocks_in offsets sizes))
  file-tells = srec-tells own load image (blocks_in offsets sizes) file-fits

  -- Every record is sound by the reader's own rule.
  pub file-sound : All Sound (lines_of (srec_of image offsets sizes load width))
  file-sound = subst (All Sound) (sym cut-lines) (srec-lines-sound own (256 ^ width) load pieces file-fits)
