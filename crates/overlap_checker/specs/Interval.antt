-- Intervals of bits: which bits one covers, when two share one, and when an offer clashes with a stored interval.
use Rattle.std.specs.Prelude.{Bool, ◌&&◌, ◌||◌, ℕ, ◌+◌, ◌≤◌, ◌<◌, min, max, ltb, eqb}
use Rattle.prelude.specs.Limits.{max_offer, max_position}
use Rattle.prelude.specs.Pick.{pick}
use Rattle.overlap_checker.specs.declared.Entry.{Entry}

-- `size` bits from `position` on
abbrev pub interval : ℕ → ℕ → Entry
interval position size = record { position = position; size = size }

-- the first bit past an interval
abbrev pub end : Entry → ℕ
end e = e.position + e.size

-- a bit belongs to an interval
abbrev pub Covers : Entry → ℕ → Type 0
Covers e bit = (e.position ≤ bit) × (bit < end e)

-- some bit belongs to both
abbrev pub ShareBit : Entry → Entry → Type 0
ShareBit e f = (bit : ℕ) × Covers e bit × Covers f bit

-- The same as a test: the later start lies before the earlier end.
unfoldable pub shares_bit : Entry → Entry → Bool
shares_bit e f = ltb (max e.position f.position) (min (end e) (end f))

-- a position lies strictly inside an interval
abbrev pub StrictlyInside : ℕ → Entry → Type 0
StrictlyInside position f = (f.position < position) × (position < end f)

unfoldable pub strictly_inside : ℕ → Entry → Bool
strictly_inside position f = ltb f.position position && ltb position (end f)

-- "an offer of nonzero size is kept .. if it shares no bit"; "an offer of size 0 is refused exactly when its position is strictly
-- inside a stored interval". The offer comes first, the stored interval second.
unfoldable pub clashes : Entry → Entry → Bool
clashes e f = pick (eqb e.size 0) (strictly_inside e.position f) (shares_bit e f)

-- "offer to the store: position to 8,589,934,590, size to 4,294,967,295"
abbrev pub Within : Entry → Type 0
Within e = (e.position ≤ max_offer) × (e.size ≤ max_position)

unfoldable pub past_limits : Entry → Bool
past_limits e = ltb max_offer e.position || ltb max_position e.size
