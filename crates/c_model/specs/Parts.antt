-- Blocks, hex and parts of an image, as a caller in another language is told of them.
use Rattle.std.specs.Prelude.{◌≡◌, List, ℕ, Result, Err}
use Rattle.prelude.specs.Pick.{pick}
use Rattle.prelude.specs.declared.Refusal.TheVariants.{Malformed}
use Rattle.prelude.specs.declared.Refusal.{Refusal}
use Rattle.bitvec.specs.HexDigits.{hex_answer, hex_after}
use Rattle.bitvec.specs.Part.{part_verdict}
use Rattle.blocks.specs.Spans.{spans_of, acceptable}
use Rattle.blocks.specs.Walk.{blocks_of}
use Rattle.blocks.specs.Outcome.{answer_of, origins_after, sizes_after}
use Rattle.c_answers.specs.Counts.{blocks_count, hex_count}
use Rattle.c_answers.specs.Parts.{part_by}
use Rattle.c_answers.specs.declared.DkCount.{DkCount}
use Rattle.c_answers.specs.declared.DkPart.{DkPart}

-- "Block and hex calls try 4 .., then 14"
abbrev pub blocks_answer : List ℕ → List ℕ → List ℕ → List ℕ → Result ℕ Refusal
blocks_answer words lengths origins sizes =
    pick (acceptable words lengths) (answer_of (blocks_of (spans_of words lengths)) origins sizes) (Err (Malformed 0))

-- What `dk_blocks` promises: its answer, and both lent lists.
pub record BlocksTold (words lengths origins sizes : List ℕ) (r : DkCount) (origins' sizes' : List ℕ) : Type 0 where
  pub answer : r ≡ blocks_count (blocks_answer words lengths origins sizes)
  pub first : origins' ≡ pick (acceptable words lengths) (origins_after (blocks_of (spans_of words lengths)) origins sizes) origins
  pub second : sizes' ≡ pick (acceptable words lengths) (sizes_after (blocks_of (spans_of words lengths)) origins sizes) sizes

-- What `dk_hex` promises: its answer, and the lent hex.
pub record HexTold (bytes : List ℕ) (bits : ℕ) (hex : List ℕ) (r : DkCount) (hex' : List ℕ) : Type 0 where
  pub answer : r ≡ hex_count (hex_answer bytes bits hex)
  pub digits : hex' ≡ hex_after bytes bits hex

-- What `dk_part` promises: "For a block on byte edges the caller gets back that part of its own image".
pub record PartTold (image : List ℕ) (offset size : ℕ) (r : DkPart) : Type 0 where
  pub answer : r ≡ part_by offset size (part_verdict image offset size)
