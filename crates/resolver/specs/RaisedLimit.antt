-- Raising the pass limit is harmless: a layout that is accepted with K below its limit is the same for every limit above K, over the same rows.
-- With K equal to the limit it is not: pass K + 1 then runs, and reads another row.
use Rattle.std.specs.Prelude.{[], ◌∷◌}
use Rattle.nodes.specs.Lists.{Lists, lists}

-- The edge: one node of open size, 1 bit in row 1 and 2 bits in row 2, resolved in both. Limit 1 gives K 1 and runs pass 1, limit 2 gives K 1 as well
-- and runs pass 2, which reads the other row.
abbrev pub edge : Lists
edge = lists (6 ∷ []) (0 ∷ []) (1 ∷ 2 ∷ []) (0 ∷ 0 ∷ []) 2 (192 ∷ [])

-- Or it is refused: the same with row 2 unresolved is accepted for limit 1, and 8 for limit 2.
abbrev pub edge_refused : Lists
edge_refused = lists (6 ∷ []) (0 ∷ []) (1 ∷ 2 ∷ []) (0 ∷ 2 ∷ []) 2 (192 ∷ [])
