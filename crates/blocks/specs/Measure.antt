-- Whatever adds up where one run of bits follows another has the same sum over the blocks as over the spans that have an offset. Sizes
-- do, and so does the number of times that a bit is covered.
use Rattle.std.specs.Prelude.{ℕ, Option, None, Some}
use Rattle.blocks.specs.Spans.{Span}

-- A span without offset counts nothing.
abbrev pub of_run : (ℕ → ℕ → ℕ) → Option ℕ → ℕ → ℕ
of_run m None size = 0
of_run m (Some o) size = m o size

abbrev pub of_span : (ℕ → ℕ → ℕ) → Span → ℕ
of_span m s = of_run m s.offset s.size
