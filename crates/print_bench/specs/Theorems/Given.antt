-- What a file of the bench gives: the address that is named as not given is not given, and every byte before it is.
use Rattle.std.specs.Prelude.{◌≡◌, true, false, List, ℕ, suc, ◌+◌, ◌≤◌, ◌<◌}
use Rattle.std.proofs.Common.{arith}
use Rattle.blocks.specs.Outcome.{origins, sizes}
use Rattle.record_lines.specs.Pieces.{Piece}
use Rattle.record_read.specs.Given.{given}
use Rattle.record_read.specs.Laws.BlockFacts.{given-runs, none_above}
use Rattle.record_read.specs.Runs.{is_given, reach, runs_given, blocks_given}
use Rattle.print_bench.specs.Images.{free_from}
use Rattle.print_bench.specs.Laws.Free.{free-holds, free-fails}

module _ (load : ℕ) (pieces : List Piece) where
  abbrev free : ℕ → ℕ
  free at = free_from (origins (blocks_given load pieces)) (sizes (blocks_given load pieces)) at

  -- Which file does not give which address: the file gives no byte there,
  pub named-is-not-given : (at : ℕ) → given pieces (load + free at) ≡ false
  named-is-not-given at =
      free-fails (is_given load pieces) 0 (suc (reach load pieces)) (runs_given load pieces) (given-runs load pieces)
      (λ x h. none_above load pieces x (omega arith)) at (omega arith)

  -- and every address before it, from the range's first on, is given: so all of a range that is answered as `released`.
  pub before-it-is-given : (at k : ℕ) → at ≤ k → k < free at → given pieces (load + k) ≡ true
  before-it-is-given = free-holds (is_given load pieces) 0 (suc (reach load pieces)) (runs_given load pieces) (given-runs load pieces)
