-- A call of the map, as its contract has it.
use Rattle.std.specs.Prelude.{ℕ, length}
use Rattle.nodes.specs.Lists.{Row}
use Rattle.resolver.specs.Once.{Program}
use Rattle.resolver.specs.Passes.{program, row_of_pass}
use Rattle.output.specs.Output.{Input}
use Rattle.build_visits.specs.Visits.{visit_at}
use Rattle.build_visits.specs.declared.Visit.{Visit}
use Rattle.build_map.specs.Map.{Lent, Maps}
use Rattle.build_map.specs.declared.Map.{Map}

-- what was given, what was lent, the answer, and what is lent afterwards
pub record Call : Type 0 where
  pub given : Input
  pub old : Lent
  pub answer : Map
  pub new : Lent
  pub meets : Maps given old answer new

abbrev pub program_in : Call → Program
program_in c = program c.given.banks c.given.lists

-- the row of the last pass
abbrev pub row_in : Call → Row
row_in c = row_of_pass c.given.lists c.answer.passes

abbrev pub nodes_in : Call → ℕ
nodes_in c = length c.given.lists.kinds

-- node i, as the build visits it
abbrev pub visit_in : Call → ℕ → Visit
visit_in c i = visit_at (program_in c) (row_in c) i
