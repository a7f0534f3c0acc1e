-- The walk of a row in the variables of a loop: the positions of the banks and the bank, by themselves; and where two walks start.
use Rattle.std.specs.Prelude.{ℕ, ◌<◌, ◌≡◌, List, length, replicate}
use Rattle.prelude.specs.Limits.{max_banks}
use Rattle.iter.specs.Step.{origin}
use Rattle.iter.specs.declared.Pos.{Pos}
use Rattle.nodes.specs.Lists.{Row}
use Rattle.resolver.specs.Once.{Program, walk_to}
use Rattle.resolver.specs.declared.TwoWalks.{TwoWalks}

-- The walk of a row under way, in the variables of a loop: the positions of the banks and the bank, before node i.
pub record Stands (p : Program) (row : Row) (i : ℕ) (at : List Pos) (bank : ℕ) : Type 0 where
  pub places : (walk_to p row i).at ≡ at
  pub stood : (walk_to p row i).bank ≡ bank
  pub sixteen : length at ≡ max_banks
  pub listed : bank < p.banks.len

-- "Each bank's position starts at 0, known": in both of two walks
abbrev pub both_start : TwoWalks
both_start = record { at = replicate max_banks origin; old = replicate max_banks origin }
