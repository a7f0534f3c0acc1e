-- The file that `write_ihex` leaves: what it says when it is read, and what it looks like.
use Rattle.std.specs.Prelude.{◌≡◌, ℕ, true, List, length}
use Rattle.std.proofs.Common.{sym, subst}
use Rattle.bitvec.specs.Bits.{Bytes}
use Rattle.sort.specs.Agree.{All}
use Rattle.blocks.specs.declared.Block.{Block}
use Rattle.record_lines.specs.Lines.{lines_of}
use Rattle.record_lines.specs.Pieces.{Piece}
use Rattle.record_lines.specs.Telling.{Tells, Rises}
use Rattle.record_ihex_line.specs.Format.{hex_item}
use Rattle.record_write.specs.Checks.{all_parts, all_placed}
use Rattle.record_write.specs.Cut.{blocks_in, pieces_of}
use Rattle.record_write.specs.Exactly.{AllParts, WellPlaced}
use Rattle.record_write.specs.Theorems.Exactly.{parts-exactly, placed-all}
use Rattle.record_write.specs.Theorems.Rising.{file-rises}
use Rattle.record_write.specs.Laws.Said.{hex_lines}
use Rattle.record_write.specs.Theorems.Said.{hex-lines-cut, hex-tells}
use Rattle.record_write.specs.Shape.{Good}
use Rattle.record_write.specs.Laws.Shape.{hex-lines-good}
use Rattle.record_write.specs.Hex.{hex_of}

module _ (image offsets sizes : List ℕ) (load : ℕ) (good : Bytes image) (parts : AllParts (length image) offsets sizes)
    (places : WellPlaced load offsets sizes) where
  abbrev blocks : List Block
  blocks = blocks_in offsets sizes

  abbrev pieces : List Piece
  pieces = pieces_of load image blocks

  all-parts : all_parts (length image) blocks ≡ true
  all-parts = (parts-exactly (length image) offsets sizes).1 parts

  all_placed_lem : all_placed load blocks ≡ true
  all_placed_lem = placed-all load offsets sizes places

  rises : Rises 4294967296 load (pieces_of load image (blocks_in offsets sizes))
  rises = file-rises image offsets sizes load good parts places

  cut-lines : lines_of (hex_of image offsets sizes load) ≡ hex_lines 0 pieces
  cut-lines = hex-lines-cut load image blocks good all-parts all_placed_lem

  -- Its lines, read by the format's own rule, give the pieces of the blocks in their order, and then the file ends.
  pub file-tells : Tells hex_item 0 (lines_of (hex_of image offsets sizes load)) (pieces_of load image (blocks_in offsets sizes))
  file-tells = hex-tells load image blocks good all-parts all_placed_lem

  -- Every record is good by the reader's own rule.
  pub file-good : All Good (lines_of (hex_of image offsets sizes load))
  file-good = subst (All Good) (sym cut-lines) (hex-lines-good load 0 pieces rises)
