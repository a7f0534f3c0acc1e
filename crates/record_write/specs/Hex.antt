-- Writing Intel HEX: the file of a format, for the format 0, and what a caller is told in document 01's figures.
use Rattle.std.specs.Prelude.{◌≡◌, ℕ, Bool, ◌&&◌, List, length, ◌==◌, nat_le, Result}
use Rattle.prelude.specs.Told.{Told}
use Rattle.prelude.specs.declared.Refusal.{Refusal}
use Rattle.record_write.specs.Checks.{all_placed}
use Rattle.record_write.specs.Cut.{blocks_in}
use Rattle.record_write.specs.Exactly.{answers}
use Rattle.record_write.specs.Outcome.{input, parts_ok, told_written, text, Writes}

-- The text of an image's blocks from a load address on.
abbrev pub hex_of : List ℕ → List ℕ → List ℕ → ℕ → List ℕ
hex_of image offsets sizes load = text (input 0 image offsets sizes load)

-- 4: "blocks not ascending or sharing a bit, an address past 2^32 - 1"; lists of different lengths are no list of blocks.
abbrev pub places_ok : List ℕ → List ℕ → ℕ → Bool
places_ok offsets sizes load = length offsets == length sizes && all_placed load (blocks_in offsets sizes)

-- "Refusals: 16 .., 4 .., then 14", whose place is 3 for text.
abbrev pub told_hex : List ℕ → List ℕ → List ℕ → ℕ → List ℕ → Told ℕ
told_hex image offsets sizes load old =
    answers (parts_ok image offsets sizes) (places_ok offsets sizes load) (nat_le (length (hex_of image offsets sizes load)) (length old))
    (length (hex_of image offsets sizes load))

-- What `write_ihex` promises: its answer, in the paper's figures too, and every character of the lent text.
pub record WritesHex (image offsets sizes : List ℕ) (load : ℕ) (old : List ℕ) (r : Result ℕ Refusal) (new : List ℕ) : Type 0 where
  pub writes : Writes (input 0 image offsets sizes load) old r new
  pub told : told_written r ≡ told_hex image offsets sizes load old
