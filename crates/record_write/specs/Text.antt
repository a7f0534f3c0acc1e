-- The text of pieces, in a format: 0 is Intel HEX, 2 and 4 are S-records with addresses of so many bytes.
use Rattle.std.specs.Prelude.{ℕ, Bool, ◌||◌, List, [], ◌∷◌, ◌++◌, take, ◌==◌}
use Rattle.prelude.specs.Pick.{pick}
use Rattle.blocks.specs.declared.Block.{Block}
use Rattle.record_lines.specs.Pieces.{Piece, piece}
use Rattle.record_ihex_line.specs.Format.{hex_text, hex_after, end_text}
use Rattle.record_srec_line.specs.Srec.{srec_text, srec_end}
use Rattle.record_write.specs.Cut.{pieces_of}

-- The formats that are known.
abbrev pub known : ℕ → Bool
known format = format == 0 || format == 2 || format == 4

-- The lines of a piece while a state is in force, the state behind it, and the end record's line. (An S-record has room for 250 bytes; a piece has at
-- most 16.)
abbrev pub text_by : ℕ → ℕ → Piece → List ℕ
text_by format state p = pick (format == 0) (hex_text state p) (srec_text format (piece p.address (take 250 p.bytes)))

abbrev pub after_by : ℕ → ℕ → Piece → ℕ
after_by format state p = hex_after state p

abbrev pub end_by : ℕ → List ℕ
end_by format = pick (format == 0) end_text (srec_end format)

-- The lines of pieces, and the state behind them.
unfoldable pub lines_from : ℕ → ℕ → List Piece → List ℕ
lines_from format state [] = []
lines_from format state (p ∷ l) = text_by format state p ++ lines_from format (after_by format state p) l

unfoldable pub state_from : ℕ → ℕ → List Piece → ℕ
state_from format state [] = state
state_from format state (p ∷ l) = state_from format (after_by format state p) l

-- The text of an image's blocks: at first the state is 0, and the end record comes last.
abbrev pub text_of : ℕ → ℕ → List ℕ → List Block → List ℕ
text_of format load image blocks = lines_from format 0 (pieces_of load image blocks) ++ end_by format
