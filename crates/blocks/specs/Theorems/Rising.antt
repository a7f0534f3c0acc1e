-- Theorems about what Rising defines.
use mathlib.Core.List.{List, Memᴰ}
use Rattle.std.specs.Prelude.{◌<◌}
use Rattle.sort.specs.Theorems.Order.{Ascending}
use Rattle.sort.proofs.Order.{sorted-ascends}
use Rattle.blocks.specs.declared.Block.{Block}
use Rattle.blocks.specs.Spans.{Span, rank_of, by_offset}
use Rattle.blocks.specs.Walk.{block, blocks_of}
use Rattle.blocks.specs.Laws.Rising.{ahead-zero, rises, walk-some}
use Rattle.blocks.specs.Rising.{origin_of}

-- The blocks ascend by offset.
pub blocks-ascend : (spans : List Span) → Ascending origin_of (blocks_of spans)
blocks-ascend spans = (rises (block 0 0) (by_offset spans) (ahead-zero (by_offset spans)) (sorted-ascends rank_of spans)).1

-- No block is empty.
pub blocks-not-empty : (spans : List Span) (x : Block) → Memᴰ x (blocks_of spans) → 0 < x.size
blocks-not-empty spans = walk-some (block 0 0) (by_offset spans)
