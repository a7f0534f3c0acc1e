-- What a sound file's pieces have in common, whatever its format: none is "below the load address", none ends "past 2^32 - 1", and none gives a byte
-- that one before it
-- gave.
use Rattle.std.specs.Prelude.{◌≡◌, true, List, [], ◌∷◌, ◌++◌, ℕ}
use Rattle.record_lines.specs.Pieces.{Piece}
use Rattle.record_scan.specs.Reading.{fine}

-- Pieces of which each is fine behind those before it.
pub data Fine (load : ℕ) : List Piece → Type 0 where
  none : Fine load []
  more : (l : List Piece) (p : Piece) → Fine load l → fine load l (p ∷ []) ≡ true → Fine load (l ++ (p ∷ []))
