-- Blocks of whole bytes: "a part of an image is empty, outside it, or not on byte edges" is 16; blocks are lent as offsets and sizes in bits.
use Rattle.std.specs.Prelude.{◌≡◌, Bool, true, ◌&&◌, List, [], ◌∷◌, ℕ, ◌+◌, ◌*◌, ◌%◌, ◌≤◌, ◌<◌, leb, eqb, length, get_or}

-- The contrary of a block of an image of so many bytes, and of all blocks.
unfoldable pub whole : ℕ → ℕ → ℕ → Bool
whole bytes offset size = eqb (offset % 8) 0 && (eqb (size % 8) 0 && leb (offset + size) (8 * bytes))

unfoldable pub all_whole : ℕ → List ℕ → List ℕ → Bool
all_whole bytes [] sizes = true
all_whole bytes (o ∷ offsets) [] = true
all_whole bytes (o ∷ offsets) (s ∷ sizes) = whole bytes o s && all_whole bytes offsets sizes

-- What a walk knows by index of blocks that are refused neither by 4 nor by 16.
pub record Sound (os ss : List ℕ) : Type 0 where
  pub paired : length os ≡ length ss
  pub some : (i : ℕ) → i < length os → 0 < get_or ss i 0
  pub behind : (i j : ℕ) → i < j → j < length os → get_or os i 0 + get_or ss i 0 ≤ get_or os j 0
  pub starts : (i : ℕ) → i < length os → get_or os i 0 % 8 ≡ 0
  pub sized : (i : ℕ) → i < length os → get_or ss i 0 % 8 ≡ 0
