-- Nothing is given twice, line by line and address by address.
use Rattle.std.specs.Prelude.{◌≡◌, Bool, true, List, [], ◌∷◌, ℕ, ◌+◌, ◌<◌}
use Rattle.record_lines.specs.Pieces.{Piece, end_of}
use Rattle.record_scan.specs.Reading.{new_pieces, is_new}
use Rattle.record_scan.specs.Trail.{trail, item_at}

-- No byte at an address is among those given.
abbrev pub is_free : List Piece → ℕ → Bool
is_free given x = is_new given x (x + 1)

-- What line k gives.
abbrev pub new_at : ℕ → List ℕ → ℕ → List Piece
new_at format text k = new_pieces (item_at format text (trail format text k).at (trail format text k).state)

-- None of its bytes is "given twice".
abbrev pub all_new : List Piece → List Piece → Bool
all_new given [] = true
all_new given (p ∷ l) = is_new given p.address (end_of p)

abbrev pub new_line : ℕ → List ℕ → ℕ → Bool
new_line format text k = all_new (trail format text k).given (new_at format text k)

-- The first n lines give none twice.
abbrev pub Once : ℕ → List ℕ → ℕ → Type 0
Once format text n = (k : ℕ) → k < n → new_line format text k ≡ true
