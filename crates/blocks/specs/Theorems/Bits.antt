-- Theorems about what Bits defines.
use Rattle.std.specs.Prelude.{List}
use Rattle.blocks.specs.Laws.Measure.{of_block}
use Rattle.blocks.specs.Measure.{of_span}
use Rattle.blocks.specs.Spans.{Span}
use Rattle.blocks.specs.Walk.{blocks_of}
use Rattle.blocks.specs.Bits.{InBlock, InSpan, NoSharedBit}
use Rattle.blocks.specs.Laws.Bits.{apart-counted, bit_kept, blocks-count, counted-apart, covers, spans-count}

-- Where no two spans share a bit, no two blocks do.
pub blocks-apart : (spans : List Span) → NoSharedBit InSpan spans → NoSharedBit InBlock (blocks_of spans)
blocks-apart spans h = counted-apart InBlock (λ n b. of_block (covers n) b) blocks-count (blocks_of spans)
    (λ bit. rw (bit_kept bit spans) (apart-counted InSpan (λ n s. of_span (covers n) s) spans-count spans h bit))
