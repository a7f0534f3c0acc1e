-- Document 02, Ticket 4: "4 for overlay blocks empty, not ascending or sharing a bit". Offsets and sizes of different number are 4 too.
use Rattle.std.specs.Prelude.{◌≡◌, Bool, true, false, ◌&&◌, List, [], ◌∷◌, ℕ, ◌+◌, ◌≤◌, ◌<◌, ltb, leb, length, get_or}

-- The contrary. Each block is held against the end of the one before, `floor`: that one is not empty, so a block that starts at or
-- above its end ascends and shares no bit with it. `in-order-exactly` says that nothing is lost.
unfoldable pub in_order : ℕ → List ℕ → List ℕ → Bool
in_order floor [] [] = true
in_order floor [] (s ∷ sizes) = false
in_order floor (o ∷ offsets) [] = false
in_order floor (o ∷ offsets) (s ∷ sizes) = ltb 0 s && (leb floor o && in_order (o + s) offsets sizes)

-- What the document says of blocks that are not refused: as many sizes as offsets, none empty, ascending, no two sharing a bit.
pub record Acceptable (os ss : List ℕ) : Type 0 where
  pub paired : length os ≡ length ss
  pub some : (i : ℕ) → i < length os → 0 < get_or ss i 0
  pub ascending : (i j : ℕ) → i < j → j < length os → get_or os i 0 < get_or os j 0
  pub apart : (i j k : ℕ) → i < j → j < length os → get_or os i 0 ≤ k → k < get_or os i 0 + get_or ss i 0 → get_or os j 0 ≤ k
      → k < get_or os j 0 + get_or ss j 0 → ⊥
