-- "a span whose offset is none is passed over": the blocks are those of the spans that have an offset, wherever the others stand and in whatever
-- order they are taken.
use Rattle.std.specs.Prelude.{List, [], ◌∷◌, Option, ℕ, None, Some}
use Rattle.blocks.specs.Spans.{Span}

-- The spans that have an offset.
abbrev pub keep_at : Option ℕ → Span → List Span → List Span
keep_at None s l = l
keep_at (Some o) s l = s ∷ l

abbrev pub placed : List Span → List Span
placed [] = []
placed (s ∷ l) = keep_at s.offset s (placed l)
