-- Document 02, Ticket 1: "Bytes of a record, checksum included, sum to zero and wrap at 256." The sum of bytes, of which the low byte is
-- looked at.
use Rattle.std.specs.Prelude.{ℕ, ◌+◌, List, [], ◌∷◌}

unfoldable pub sum_of : List ℕ → ℕ
sum_of [] = 0
sum_of (b ∷ l) = b + sum_of l
