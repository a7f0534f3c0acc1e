-- Blocks of spans that share no bit stand in a row: each ends at or before the start of every later one.
use Rattle.std.specs.Prelude.{List}
use Rattle.blocks.specs.Bits.{InSpan, NoSharedBit}
use Rattle.blocks.specs.Theorems.Bits.{blocks-apart}
use Rattle.blocks.specs.Theorems.Rising.{blocks-ascend, blocks-not-empty}
use Rattle.blocks.specs.Spans.{Span}
use Rattle.blocks.specs.Walk.{blocks_of}
use Rattle.blocks.specs.Laws.Row.{InARow, row}

pub blocks-in-a-row : (spans : List Span) → NoSharedBit InSpan spans → InARow (blocks_of spans)
blocks-in-a-row spans h = row (blocks_of spans) (blocks-ascend spans) (blocks-not-empty spans) (blocks-apart spans h)
