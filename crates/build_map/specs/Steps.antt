-- What the map's inner functions promise one another. A reader of the public contract needs none of it.
use Rattle.std.specs.Prelude.{◌≡◌, Bool, ℕ, ◌<◌, length, replicate, Result, Err, Ok, None}
use Rattle.prelude.specs.Limits.{max_nodes}
use Rattle.prelude.specs.Refusals.{number_of}
use Rattle.prelude.specs.declared.Refusal.{Refusal}
use Rattle.prelude.specs.Verdict.{Verdict, Accepted}
use Rattle.iter.specs.Step.{no_lost}
use Rattle.nodes.specs.Lists.{Row, row_with}
use Rattle.resolver.specs.Once.{Program, program_with, walk_to}
use Rattle.build_visits.specs.Visits.{visits}
use Rattle.build_map.specs.Map.{node_of, settled_reach, map_by, Lent, left_by}
use Rattle.build_map.specs.declared.Reach.{Reach}
use Rattle.build_map.specs.declared.rows.LastRow.{LastRow}
use Rattle.build_map.specs.declared.Map.{Map}

-- what a map's row keeps from row to row, and the row itself
abbrev pub program_of : LastRow → Program
program_of r = program_with r.banks r.kinds.now r.operands.now r.first.now

abbrev pub row_of : LastRow → Row
row_of r = row_with r.numbers.now r.states.now

-- the node of a 7 is one that a layout can have
abbrev pub Few : Result ℕ Refusal → Type 0
Few (Err why) = number_of why ≡ 7 → node_of why < max_nodes
Few (Ok k) = Unit {0}

-- how far a row goes
abbrev pub row_reach : Program → Row → Bool → Result ℕ Refusal → Reach
row_reach p row closed settled = settled_reach closed (visits p row) (length p.kinds) settled

-- The map of a row: its answer, with the sums that the walk carries, and everything lent afterwards.
pub record RowMapped (p : Program) (row : Row) (closed : Bool) (settled : Result ℕ Refusal) (passes : ℕ) (old : Lent) (r : Map) (new : Lent) : Type 0 where
  pub answer : r ≡ map_by passes (row_reach p row closed settled) (walk_to p row (row_reach p row closed settled).nodes).lost
  pub left : new ≡ left_by p row (row_reach p row closed settled).nodes old

abbrev pub verdict_of : Result ℕ Refusal → Verdict
verdict_of (Err why) = Err why
verdict_of (Ok k) = Accepted

-- the answer where no pass was run
abbrev pub mapless : Result ℕ Refusal → Map
mapless settled = map_by 0 (record { verdict = verdict_of settled; nodes = 0; fault = None }) (replicate 16 no_lost)
