-- Spans by their numbers: the blocks of spans that are taken in the order of a list of numbers.
use Rattle.std.specs.Prelude.{◌≡◌, true, List, map, ℕ, ◌≤◌, ◌<◌, length, get_or}
use Rattle.prelude.specs.Limits.{max_nodes}
use Rattle.blocks.specs.declared.Block.{Block}
use Rattle.blocks.specs.Spans.{Span, span, within}
use Rattle.blocks.specs.Walk.{block, blocks_from}

-- The span of a number.
abbrev pub span_at : List ℕ → List ℕ → ℕ → Span
span_at words sizes number = span (get_or words number 0) (get_or sizes number 0)

abbrev pub numbered_blocks : List ℕ → List ℕ → List ℕ → List Block
numbered_blocks words sizes numbers = blocks_from (block 0 0) (map (span_at words sizes) numbers)

-- Numbers that a walk can follow: no more than there may be spans, each that of a span, and every span within its limits.
pub record Walkable (numbers words sizes : List ℕ) : Type 0 where
  pub few : length numbers ≤ max_nodes
  pub paired : length words ≡ length sizes
  pub placed : (k : ℕ) → k < length numbers → get_or numbers k 0 < length words
  pub limited : (k : ℕ) → k < length words → within (span (get_or words k 0) (get_or sizes k 0)) ≡ true
