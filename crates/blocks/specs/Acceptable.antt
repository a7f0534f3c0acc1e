-- Spans that are lent as document 01 has them, test by test and in its words.
use Rattle.std.specs.Prelude.{◌≡◌, List, ℕ, ◌≤◌, ◌<◌, length, get_or, Option, None, Some}
use Rattle.prelude.specs.Limits.{max_nodes, max_offer, max_position}
use Rattle.blocks.specs.Offsets.{offset_of}

-- "offer to the store: position to 8,589,934,590, size to 4,294,967,295"; a span may have no offset.
abbrev pub OffsetFits : Option ℕ → Type 0
OffsetFits None = Unit {0}
OffsetFits (Some o) = o ≤ max_offer

abbrev pub SpanFits : ℕ → ℕ → Type 0
SpanFits word size = OffsetFits (offset_of word) × (size ≤ max_position)

-- A size for each offset, "over 4,096 spans" not, and no "span past an offer's limits".
pub record WellLent (words sizes : List ℕ) : Type 0 where
  pub paired : length words ≡ length sizes
  pub few : length words ≤ max_nodes
  pub each : (k : ℕ) → k < length words → SpanFits (get_or words k 0) (get_or sizes k 0)
