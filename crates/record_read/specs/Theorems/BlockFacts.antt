-- The blocks that a file gives: "ascending, touching ones joined, whatever the order of the records".
use Rattle.std.specs.Prelude.{◌≡◌, true, List, ◌↔◌, ℕ, suc, ◌+◌, ◌/◌}
use Rattle.std.proofs.Common.{arith}
use Rattle.blocks.specs.Bits.{InBlock, SomeElement}
use Rattle.record_lines.specs.Pieces.{Piece}
use Rattle.record_read.specs.Given.{given}
use Rattle.record_read.specs.Runs.{is_given, reach, runs_given, blocks_given}
use Rattle.record_read.specs.Laws.BlockFacts.{all-below, given-runs, in-bits, to_bits}

-- ---- the blocks of a file

module _ (load : ℕ) (l : List Piece) where
  -- A bit lies in some block exactly when the file gives its byte, at the load address plus the bit's number over 8. (Nothing below the load address
  -- is given by a good file.)
  pub blocks-cover-exactly : (bit : ℕ) → SomeElement (InBlock bit) (blocks_given load l) ↔ (given l (load + bit / 8) ≡ true)
  blocks-cover-exactly bit = (
    λ s. in-bits (is_given load l) 0 (suc (reach load l)) (runs_given load l) (given-runs load l) bit s,
    λ t.
        let h = all-below load l (bit / 8) t in
        to_bits (is_given load l) 0 (suc (reach load l)) (runs_given load l) (given-runs load l) bit (omega arith) (omega arith) t,
  )
