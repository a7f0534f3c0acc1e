-- A text that is written piece by piece: what the private steps of the crate owe each other.
use Rattle.std.specs.Prelude.{◌≡◌, ℕ, ◌+◌, Bool, true, ◌&&◌, List, [], ◌∷◌, ◌++◌, length, ◌==◌}
use Rattle.prelude.specs.Pick.{pick}
use Rattle.blocks.specs.declared.Block.{Block}
use Rattle.record_lines.specs.Digits.{bytes_text}
use Rattle.record_lines.specs.Pieces.{piece}
use Rattle.record_lines.specs.Puts.{Puts}
use Rattle.record_write.specs.Text.{text_by, lines_from, state_from}
use Rattle.record_write.specs.Checks.{all_parts, all_placed, fits_width}
use Rattle.record_write.specs.Cut.{cut, blocks_in}
use Rattle.record_write.specs.declared.Place.{Place}

-- The first part of a whole text stands in the buffer, and the rest is still to come.
pub record Writing (whole old : List ℕ) (at : ℕ) (new rest : List ℕ) : Type 0 where
  pub done : List ℕ
  pub split : whole ≡ done ++ rest
  pub puts : Puts done old at new

-- A step writes text: whatever stood there before and is to come behind it.
pub record Adds (text : List ℕ) (at : ℕ) (old : List ℕ) (end : ℕ) (new : List ℕ) : Type 0 where
  pub goes : (whole first rest : List ℕ) → Writing whole first at old (text ++ rest) → Writing whole first end new rest

-- What writing a block promises.
pub record BlockWritten (format address : ℕ) (bytes : List ℕ) (p : Place) (old : List ℕ) (r : Place) (new : List ℕ) : Type 0 where
  pub adds : Adds (lines_from format p.state (cut address bytes)) p.at old r.at new
  pub state : r.state ≡ state_from format p.state (cut address bytes)
  pub long : length new ≡ length old

-- The lines of n bytes at an address, whichever they are, have so many characters;
abbrev pub PieceRoom : ℕ → ℕ → ℕ → ℕ → ℕ → Type 0
PieceRoom format state address n r = (bytes : List ℕ) → length bytes ≡ n → r ≡ length (text_by format state (piece address bytes))

-- so many bytes from an address on, whichever they are, take the room from one place to another.
pub record BlockRoom (format address count : ℕ) (p r : Place) : Type 0 where
  pub at : (bytes : List ℕ) → length bytes ≡ count → r.at ≡ p.at + length (lines_from format p.state (cut address bytes))
  pub state : (bytes : List ℕ) → length bytes ≡ count → r.state ≡ state_from format p.state (cut address bytes)

-- A line behind its head: its bytes, the check byte and LF.
abbrev pub tail_text : List ℕ → ℕ → List ℕ
tail_text bytes check = (bytes_text bytes ++ bytes_text (check ∷ [])) ++ (10 ∷ [])

-- Where the addresses of a format end; and what is tested of all blocks in one walk.
abbrev pub limit_of : ℕ → ℕ
limit_of format = pick (format == 2) 65536 4294967296

abbrev pub placed_in : ℕ → ℕ → List Block → Bool
placed_in format load blocks = fits_width format load blocks && all_placed load blocks

-- What is known of the blocks when they are written.
pub record Ready (image offsets sizes : List ℕ) (load : ℕ) : Type 0 where
  pub paired : length offsets ≡ length sizes
  pub parts : all_parts (length image) (blocks_in offsets sizes) ≡ true
  pub places : all_placed load (blocks_in offsets sizes) ≡ true
