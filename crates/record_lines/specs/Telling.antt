-- What the lines of a file say one after the other, whatever its format.
use Rattle.std.specs.Prelude.{◌≡◌, ℕ, ◌<◌, ◌≤◌, List, [], ◌∷◌, length}
use Rattle.bitvec.specs.Bits.{Bytes}
use Rattle.record_lines.specs.Items.{Format, gives, passes, ends}
use Rattle.record_lines.specs.Pieces.{Piece, end_of}

-- Each line is read while the state behind the one before it is in force. Every one of them is good: it gives a piece, or passes; and the last, and no other,
-- is the end record.
pub data Tells (f : Format) : ℕ → List (List ℕ) → List Piece → Type 0 where
  closes : {state : ℕ} {line : List ℕ} → f state line ≡ ends → Tells f state (line ∷ []) []
  skips : {state after : ℕ} {line : List ℕ} {lines : List (List ℕ)} {l : List Piece} → f state line ≡ passes after → Tells f after lines l → Tells f state
      (line ∷ lines) l
  tells : {state after : ℕ} {line : List ℕ} {lines : List (List ℕ)} {p : Piece} {l : List Piece} → f state line ≡ gives p.address p.bytes after → Tells f
      after lines l
      → Tells f state (line ∷ lines) (p ∷ l)

-- A piece that begins at an address or behind it and ends at `top` or before, with at least one byte and at most 16.
pub record Sits (top from : ℕ) (p : Piece) : Type 0 where
  pub above : from ≤ p.address
  pub some : 0 < length p.bytes
  pub few : length p.bytes ≤ 16
  pub below : end_of p ≤ top
  pub bytes : Bytes p.bytes

-- Pieces that ascend and share no address.
abbrev pub Rises : ℕ → ℕ → List Piece → Type 0
Rises top from [] = Unit {0}
Rises top from (p ∷ l) = Sits top from p × Rises top (end_of p) l
