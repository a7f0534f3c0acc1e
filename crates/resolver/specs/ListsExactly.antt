-- "4: the list .. is malformed", exactly when, with its place: the counts, then the choice, then the lowest node at fault.
use Rattle.std.specs.Prelude.{ℕ, ◌<◌, ◌≤◌, ◌≡◌, true, false, length}
use Rattle.nodes.specs.Lists.{Lists, node_count_sound, row_count_sound}
use Rattle.nodes.specs.Sound.{Lowest}

-- The lists, with the choice of the fill, are malformed at a place. "then 4: node count, row count, limit, then the lowest node"; "4 for an unknown
-- choice, after the limit (field 3)".
pub data MalformedAt (banks : ℕ) (l : Lists) (fill : ℕ) : ℕ → Type 0 where
  node_count : node_count_sound l ≡ false → MalformedAt banks l fill 0
  row_count : node_count_sound l ≡ true → row_count_sound l ≡ false → MalformedAt banks l fill 1
  choice : node_count_sound l ≡ true → row_count_sound l ≡ true → 1 < fill → MalformedAt banks l fill 3
  node : node_count_sound l ≡ true → row_count_sound l ≡ true → fill ≤ 1 → (i : ℕ) → Lowest banks l (length l.kinds) i → MalformedAt banks l fill i
