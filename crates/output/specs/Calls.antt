-- A call of the public build, as its contract has it; and what the contract says of one that was accepted.
use Rattle.std.specs.Prelude.{◌≡◌, Bool, List, ℕ, ◌*◌, ◌≤◌, length}
use Rattle.nodes.specs.Lists.{Row}
use Rattle.resolver.specs.Once.{Program}
use Rattle.resolver.specs.Passes.{program, row_of_pass}
use Rattle.overlap_checker.specs.State.{State}
use Rattle.build_visits.specs.Visits.{visit_at, visits_to}
use Rattle.build_visits.specs.Items.{Item, items_of, length_of}
use Rattle.build_plan.specs.Placing.{holds, placed_all}
use Rattle.build_visits.specs.Spans.{Span, spans_of}
use Rattle.output.specs.Output.{Input, closed_of, Lent, Room}
use Rattle.output.specs.Output.{Builds}
use Rattle.build_visits.specs.declared.Visit.{Visit}
use Rattle.output.specs.declared.Output.{Output}
use Rattle.output.specs.Built.{done_with}

-- what was given, what was lent, the answer, and what is lent afterwards
pub record Call : Type 0 where
  pub given : Input
  pub old : Lent
  pub answer : Output
  pub new : Lent
  pub meets : Builds given old answer new

abbrev pub program_in : Call → Program
program_in c = program c.given.banks c.given.lists

-- "The build uses the row of the last pass."
abbrev pub row_in : Call → Row
row_in c = row_of_pass c.given.lists c.answer.passes

abbrev pub nodes_in : Call → ℕ
nodes_in c = length c.given.lists.kinds

-- whether bank 0 is closed
abbrev pub closed_in : Call → Bool
closed_in c = closed_of c.given

-- node n, as the build visits it, and those before it
abbrev pub visit_in : Call → ℕ → Visit
visit_in c n = visit_at (program_in c) (row_in c) n

abbrev pub visits_before : Call → ℕ → List Visit
visits_before c n = visits_to (program_in c) (row_in c) n

abbrev pub visits_in : Call → List Visit
visits_in c = visits_before c (nodes_in c)

abbrev pub items_in : Call → List Item
items_in c = items_of (visits_in c)

abbrev pub spans_in : Call → List Span
spans_in c = spans_of (visits_in c)

abbrev pub values_in : Call → List ℕ
values_in c = c.given.lists.values

-- An accepted call: pass K, the image's length and the number of spans.
pub record Accepted : Type 0 where
  pub call : Call
  pub k : ℕ
  pub bits : ℕ
  pub spans : ℕ
  pub done : call.answer.build ≡ done_with k bits spans

-- every node was placed, and there was room
pub record Fine (closed : Bool) (vs : List Visit) (fill : ℕ) (room : Room) (bits spans : ℕ) : Type 0 where
  pub state : State
  pub placed : placed_all closed vs ≡ holds state
  pub reach : bits ≡ length_of fill (items_of vs)
  pub count : spans ≡ length (spans_of vs)
  pub wide : bits ≤ 8 * room.image
  pub long : spans ≤ room.spans
