-- Theorems about what Blocks defines.
use Rattle.std.specs.Prelude.{◌≡◌, true, List, [], ◌∷◌, ℕ}
use Rattle.std.proofs.Common.{arith}
use Rattle.sort.specs.Agree.{All}
use Rattle.sort.proofs.Agree.{all-sorted}
use Rattle.blocks.specs.Theorems.Acceptable.{acceptable-parts}
use Rattle.blocks.specs.Outcome.{origins, sizes}
use Rattle.blocks.specs.Spans.{spans_of, acceptable, rank_of, by_offset}
use Rattle.blocks.specs.Walk.{block, blocks_of}
use Rattle.blocks.specs.declared.Block.{Block}
use Rattle.print_text.specs.Lengths.{AllFew}
use Rattle.print_report.specs.Laws.Blocks.{Fit, Near, all_fit, walk-near}

module _ (words lengths : List ℕ) (y : acceptable words lengths ≡ true) where
  all_near : All Near (blocks_of (spans_of words lengths))
  all_near =
      walk-near (block 0 0) (by_offset (spans_of words lengths)) (omega arith)
      (all-sorted rank_of Fit (spans_of words lengths) (all_fit (spans_of words lengths) (acceptable-parts words lengths y).2))

  few-origins : (l : List Block) → All Near l → AllFew (origins l)
  few-origins [] h = tt
  few-origins (b ∷ l) h = (omega (arith, h.0), few-origins l h.1)

  few-sizes : (l : List Block) → All Near l → AllFew (sizes l)
  few-sizes [] h = tt
  few-sizes (b ∷ l) h = (omega (arith, h.0), few-sizes l h.1)

  pub origins-few : AllFew (origins (blocks_of (spans_of words lengths)))
  origins-few = few-origins (blocks_of (spans_of words lengths)) all_near

  pub sizes-few : AllFew (sizes (blocks_of (spans_of words lengths)))
  sizes-few = few-sizes (blocks_of (spans_of words lengths)) all_near
