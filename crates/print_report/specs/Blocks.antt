-- The blocks of spans that are within an offer's limits end no farther than an offer can, so that each of their numbers has at most eleven digits.
use Rattle.std.specs.Prelude.{ℕ}

-- "offer to the store: position to 8,589,934,590, size to 4,294,967,295": where an offer can end
abbrev pub farthest : ℕ
farthest = 12884901885
