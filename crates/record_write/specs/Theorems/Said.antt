-- What a written text says when it is cut into lines and these are read by the format's own rule: the pieces that were written, in their order, and then that
-- it ends.
use Rattle.std.specs.Prelude.{◌≡◌, ℕ, ◌^◌, true, List, length, refl}
use Rattle.std.proofs.Common.{ap, ◌∙◌, inl}
use Rattle.bitvec.specs.Bits.{Bytes}
use Rattle.blocks.specs.declared.Block.{Block}
use Rattle.record_lines.specs.Lines.{lines_of}
use Rattle.record_lines.specs.Pieces.{Piece}
use Rattle.record_lines.specs.Telling.{Tells, Rises}
use Rattle.record_lines.specs.Laws.Uppers.{lines-of-ended}
use Rattle.record_ihex_line.specs.Format.{hex_item}
use Rattle.record_srec_line.specs.Srec.{srec_item}
use Rattle.record_srec_line.specs.ReadBack.{Width}
use Rattle.record_write.specs.Checks.{all_parts, all_placed}
use Rattle.record_write.specs.Cut.{pieces_of}
use Rattle.record_write.specs.Text.{text_of}
use Rattle.record_write.specs.Theorems.Rising.{pieces-rise}
use Rattle.record_write.specs.Laws.Said.{hex-lines-tell, hex-lines-upper, hex-text-lines, hex_lines, srec-lines-tell, srec-lines-upper}
use Rattle.record_write.specs.Laws.Said.{srec-text-lines, srec_lines}

module _ (load : ℕ) (image : List ℕ) (blocks : List Block) (good : Bytes image) (parts : all_parts (length image) blocks ≡ true)
    (places : all_placed load blocks ≡ true) where
  abbrev pieces : List Piece
  pieces = pieces_of load image blocks

  -- The lines that a reader cuts the text into are those that were written.
  pub hex-lines-cut : lines_of (text_of 0 load image blocks) ≡ hex_lines 0 (pieces_of load image blocks)
  hex-lines-cut =
      let rises = pieces-rise load image blocks good parts places in
      ap lines_of (hex-text-lines 0 pieces) ∙ lines-of-ended (hex_lines 0 pieces) (hex-lines-upper load 0 pieces rises)

  -- They say the pieces in their order, and then that the file ends; type 04 records pass.
  pub hex-tells : Tells hex_item 0 (lines_of (text_of 0 load image blocks)) (pieces_of load image blocks)
  hex-tells = rw hex-lines-cut (hex-lines-tell load 0 pieces (pieces-rise load image blocks good parts places))

module _ {w : ℕ} (v : Width w) (load : ℕ) (image : List ℕ) (blocks : List Block) (r : Rises (256 ^ w) load (pieces_of load image blocks)) where
  pub srec-lines-cut : lines_of (text_of w load image blocks) ≡ srec_lines w (pieces_of load image blocks)
  srec-lines-cut =
      let l = pieces_of load image blocks in
      ap lines_of (srec-text-lines v (256 ^ w) load 0 l r) ∙ lines-of-ended (srec_lines w l) (srec-lines-upper v (256 ^ w) load l r)

  pub srec-tells : Tells srec_item 0 (lines_of (text_of w load image blocks)) (pieces_of load image blocks)
  srec-tells = rw srec-lines-cut (srec-lines-tell v load 0 (inl refl) (pieces_of load image blocks) r)
