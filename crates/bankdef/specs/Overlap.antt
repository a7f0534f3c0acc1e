-- Document 01, "Banks": when two banks overlap.
use Rattle.std.specs.Prelude.{ℕ, ◌+◌, Bool, true, false, ◌&&◌, ltb, Option, None, Some}
use Rattle.bankdef.specs.declared.Bankdef.{Bankdef}

-- Of two offsets, each with the size there: "Two without size always overlap. A sized bank overlaps an unsized one when its end is
-- past the other's offset. Two sized ones overlap when each end is past the other's offset."
abbrev pub ranges_overlap : ℕ → Option ℕ → ℕ → Option ℕ → Bool
ranges_overlap o None p None = true
ranges_overlap o None p (Some n) = ltb o (p + n)
ranges_overlap o (Some m) p None = ltb p (o + m)
ranges_overlap o (Some m) p (Some n) = ltb p (o + m) && ltb o (p + n)

-- "banks without offset never are" compared
abbrev pub places_overlap : Option ℕ → Option ℕ → Option ℕ → Option ℕ → Bool
places_overlap None m p n = false
places_overlap (Some o) m None n = false
places_overlap (Some o) m (Some p) n = ranges_overlap o m p n

abbrev pub pair_overlaps : Bankdef → Bankdef → Bool
pair_overlaps a b = places_overlap a.offset a.size b.offset b.size
