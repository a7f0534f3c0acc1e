-- Known-ness through a pass: "4, 6, 7, 8 keep it only if state is 0; 5 and symbols leave it; 9 makes it so exactly if state is 0". A bank's
-- position is known before a node exactly when each earlier node of that bank that takes known-ness away is followed, still before the node, by an
-- `addr` of state 0 there.
use Rattle.std.specs.Prelude.{ℕ}
use Rattle.iter.specs.Step.{bank_after}
use Rattle.nodes.specs.Lists.{Row}
use Rattle.resolver.specs.Once.{Program, node, walk_to}

-- ---- the pass

module _ (p : Program) (row : Row) where
  -- the bank that node i stands in
  abbrev pub bank_at : ℕ → ℕ
  bank_at i = bank_after (walk_to p row i).bank (node p row i)
