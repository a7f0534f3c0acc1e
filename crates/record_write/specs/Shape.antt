-- What a written file looks like: its records by their types and lengths, and its characters.
use Rattle.std.specs.Prelude.{◌≡◌, ℕ, ◌+◌, ◌-◌, ◌/◌, ◌%◌, ◌<◌, min, true, List, length, take, drop}
use mathlib.Core.List.{Memᴰ}
use Rattle.blocks.specs.declared.Block.{Block}
use Rattle.record_lines.specs.Pieces.{Piece}
use Rattle.record_ihex_line.specs.Format.{good_line}
use Rattle.record_srec_line.specs.Srec.{is_sound}
use Rattle.record_write.specs.Cut.{bytes_in}

-- ---- Intel HEX

-- A record that is written is good by the reader's own rule.
abbrev pub Good : List ℕ → Type 0
Good line = good_line line ≡ true

-- ---- S-records

abbrev pub Sound : List ℕ → Type 0
Sound line = is_sound line ≡ true

-- ---- the length of a record

-- "each as long as 16 bytes, its block and its 64 KiB line allow": a piece of bytes that stand from an address on begins at one of them and has as many as the
-- least of 16, those that are left, and those up to the end of its line.
pub record PieceOf (address : ℕ) (bytes : List ℕ) (p : Piece) : Type 0 where
  pub index : ℕ
  pub inside : index < length bytes
  pub place : p.address ≡ address + index
  pub long : length p.bytes ≡ min 16 (min (length bytes - index) (65536 - p.address % 65536))
  pub own : p.bytes ≡ take (length p.bytes) (drop index bytes)

-- Each piece is one of a block.
pub record BlockPiece (load : ℕ) (image : List ℕ) (blocks : List Block) (p : Piece) : Type 0 where
  pub of : Block
  pub among : Memᴰ of blocks
  pub piece : PieceOf (load + of.origin / 8) (bytes_in image of) p
