-- Spans, their limits, and the order in which they are taken.
use Rattle.std.specs.Prelude.{Bool, true, false, List, [], ◌∷◌, ℕ, suc, leb, eqb, length, Option, None, Some}
use Rattle.prelude.specs.Limits.{max_nodes, max_offer, max_position}
use Rattle.prelude.specs.Pick.{pick}
use Rattle.sort.specs.Sorted.{sorted_by}
use Rattle.blocks.specs.Offsets.{offset_of}

-- "Spans are labels (size 0) and written items in node order, with address and offset or none."
pub record Span : Type 0 where
  pub offset : Option ℕ
  pub size : ℕ

abbrev pub span : ℕ → ℕ → Span
span word size = record { offset = offset_of word; size = size }

-- The spans that are lent as a list of offset words and a list of sizes.
unfoldable pub spans_of : List ℕ → List ℕ → List Span
spans_of [] sizes = []
spans_of (word ∷ words) [] = []
spans_of (word ∷ words) (size ∷ sizes) = span word size ∷ spans_of words sizes

-- "offer to the store: position to 8,589,934,590, size to 4,294,967,295"
abbrev pub offset_within : Option ℕ → Bool
offset_within None = true
offset_within (Some o) = leb o max_offer

abbrev pub within : Span → Bool
within s = pick (offset_within s.offset) (leb s.size max_position) false

unfoldable pub all_within : List Span → Bool
all_within [] = true
all_within (s ∷ l) = pick (within s) (all_within l) false

-- "Block and hex calls try 4 (over 4,096 spans, a span past an offer's limits, ..)": a size is lent for each offset, there are at most
-- 4,096, and each is within the limits.
abbrev pub acceptable : List ℕ → List ℕ → Bool
acceptable words sizes = pick (eqb (length words) (length sizes)) (pick (leb (length words) max_nodes) (all_within (spans_of words sizes)) false) false

-- "For blocks, spans are taken by offset, equal ones in their order": a stable sort. Those without offset, which are passed over,
-- come first.
abbrev pub rank : Option ℕ → ℕ
rank None = 0
rank (Some o) = suc o

abbrev pub rank_of : Span → ℕ
rank_of s = rank s.offset

abbrev pub by_offset : List Span → List Span
by_offset = sorted_by rank_of
