-- The walk of a row under way, in a loop's own `Walk`.
use Rattle.std.specs.Prelude.{ℕ, ◌<◌, ◌≡◌, length}
use Rattle.prelude.specs.Limits.{max_banks}
use Rattle.iter.specs.declared.Walk.{Walk}
use Rattle.nodes.specs.Lists.{Row}
use Rattle.resolver.specs.Once.{Program, walk_to}

-- "bank positions, an array of 16 in the walk's state": before node i the loop's walk is the row's, and it stands in a bank of the table.
pub record Walks (p : Program) (row : Row) (i : ℕ) (walk : Walk) : Type 0 where
  pub is : walk_to p row i ≡ walk
  pub sixteen : length walk.at ≡ max_banks
  pub sums : length walk.lost ≡ max_banks
  pub listed : walk.bank < p.banks.len
