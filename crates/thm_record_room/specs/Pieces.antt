-- What the pieces of an image's blocks cost: at most 15 characters for a line and two for each of its bytes. A piece has fewer than 16 bytes only where its
-- block ends, or its 64 KiB line, and n bytes lie on at most n / 65536 + 2 of those.
use Rattle.std.specs.Prelude.{List, [], ◌∷◌, ℕ, ◌+◌, ◌*◌, length}
use Rattle.record_lines.specs.Pieces.{Piece}

unfoldable pub cost : List Piece → ℕ
cost [] = 0
cost (p ∷ l) = 15 + 2 * length p.bytes + cost l
