-- There are no more blocks than spans: who lends as many places as there are spans has room for every block.
use Rattle.std.specs.Prelude.{List, ◌≤◌, length}
use Rattle.std.proofs.Common.{arith}
use Rattle.sort.proofs.Order.{sorted-keeps-length}
use Rattle.blocks.specs.Spans.{Span, rank_of, by_offset}
use Rattle.blocks.specs.Walk.{block, blocks_of}
use Rattle.blocks.specs.Laws.Count.{walk-few}

pub blocks-few : (spans : List Span) → length (blocks_of spans) ≤ length spans
blocks-few spans = omega (arith, walk-few (block 0 0) (by_offset spans), sorted-keeps-length rank_of spans)
