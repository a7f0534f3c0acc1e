-- The spans that an accepted build leaves: "labels (size 0) and written items in node order, with address and offset or none". No two of them
-- share a bit, so their blocks ascend and share none. Past them the lent lists keep their old contents.
use Rattle.std.specs.Prelude.{ℕ, zero, suc, ◌+◌}
use Rattle.prelude.specs.Pick.{pick}
use Rattle.build_visits.specs.Spans.{is_span}
use Rattle.output.specs.Calls.{Call, visit_in}

-- ---- a span's place in the lists

-- how many labels and written items stand among the first n nodes
unfoldable pub spans_among : Call → ℕ → ℕ
spans_among c zero = 0
spans_among c (suc i) = pick (is_span (visit_in c i).node) (spans_among c i + 1) (spans_among c i)
