-- Blocks: what a walk over the spans, taken by offset, joins and closes.
use Rattle.std.specs.Prelude.{List, [], ◌∷◌, ◌++◌, ℕ, ◌+◌, eqb, Option, None, Some}
use Rattle.prelude.specs.Pick.{pick}
use Rattle.blocks.specs.declared.Block.{Block}
use Rattle.blocks.specs.Spans.{Span, by_offset}

abbrev pub block : ℕ → ℕ → Block
block origin size = record { origin = origin; size = size }

abbrev pub end_of : Block → ℕ
end_of b = b.origin + b.size

-- "Blocks of size 0 are dropped."
abbrev pub kept : Block → List Block
kept b = pick (eqb b.size 0) [] (b ∷ [])

-- "a span whose offset is none is passed over. A span starting exactly at the running end joins; another closes the block." What a
-- span closes,
abbrev pub closed : Block → Option ℕ → List Block
closed b None = []
closed b (Some o) = pick (eqb o (end_of b)) [] (kept b)

-- and the block that runs on after it.
abbrev pub joined : Block → Option ℕ → ℕ → Block
joined b None size = b
joined b (Some o) size = pick (eqb o (end_of b)) (block b.origin (b.size + size)) (block o size)

unfoldable pub blocks_from : Block → List Span → List Block
blocks_from b [] = kept b
blocks_from b (s ∷ l) = closed b s.offset ++ blocks_from (joined b s.offset s.size) l

-- At first an empty block runs, which is dropped as any other.
abbrev pub blocks_of : List Span → List Block
blocks_of spans = blocks_from (block 0 0) (by_offset spans)
