-- A loop that stores each step into its own walk meets the visits of its row.
use Rattle.std.specs.Prelude.{ℕ, suc, ◌≡◌, length, Result, Option}
use Rattle.prelude.specs.Limits.{max_banks}
use Rattle.prelude.specs.declared.Refusal.{Refusal}
use Rattle.bankdef.specs.declared.Bankdef.{Bankdef}
use Rattle.iter.specs.Step.{bank_after}
use Rattle.iter.specs.declared.Walk.{Walk}
use Rattle.iter.specs.declared.Pos.{Pos}
use Rattle.nodes.specs.declared.Node.{Node}
use Rattle.nodes.specs.Lists.{Row}
use Rattle.resolver.specs.Once.{Program, node, walk_to}
use Rattle.resolver.specs.Switches.{Switches}
use Rattle.resolver.specs.Walking.{Walks}
use Rattle.build_visits.specs.declared.Visit.{Visit}

-- a node, its bank, what it sees and where that is in the output, put together with the walk after it
abbrev pub visit_by : Program → Row → ℕ → Node → ℕ → Bankdef → Result Pos Refusal → Option ℕ → Visit
visit_by p row i n b d seen out = record { node = n; bank = b; def = d; seen = seen; out = out; walk = walk_to p row (suc i) }

-- A loop has come to node i of a row: its walk is the row's, n is the node and b the bank that the node stands in.
pub record Comes (p : Program) (row : Row) (i : ℕ) (walk : Walk) (b : ℕ) (n : Node) : Type 0 where
  pub switches : Switches p.banks.len p.kinds p.operands
  pub room : length p.banks.defs ≡ max_banks
  pub walks : Walks p row i walk
  pub met : n ≡ node p row i
  pub stands : b ≡ bank_after walk.bank n
