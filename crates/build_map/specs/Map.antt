-- The map of a layout: where each node stands in the row of the last pass, as far as the layout goes, and the node at which it is refused. Document 01:
-- "Then each pass in node order meets 5, 6 and 7, and 8 at its end. The build walks the nodes and tries 9, 10, 11, 12, 13 at each."
use Rattle.std.specs.Prelude.{◌≡◌, Bool, List, ◌++◌, ℕ, suc, ◌-◌, eqb, length, drop, None, Some, Err, Option, Result, Ok}
use Rattle.prelude.specs.Pick.{pick}
use Rattle.prelude.specs.Refusals.{number_of, place_of}
use Rattle.prelude.specs.Told.{Told, gives, Nothing, nothing, told_refusal, told_verdict}
use Rattle.prelude.specs.declared.Place.{Place}
use Rattle.prelude.specs.declared.Place.TheVariants.{One, Two}
use Rattle.prelude.specs.declared.Refusal.{Refusal}
use Rattle.prelude.specs.Verdict.{Accepted, Verdict}
use Rattle.bitvec.specs.Lists.{list_of}
use Rattle.blocks.specs.Offsets.{word_of}
use Rattle.iter.specs.declared.Lost.{Lost}
use Rattle.nodes.specs.Kinds.{size_of}
use Rattle.nodes.specs.Lists.{Row}
use Rattle.resolver.specs.Once.{Program}
use Rattle.resolver.specs.Padding.{padding_to}
use Rattle.resolver.specs.Passes.{program, row_of_pass}
use Rattle.build_visits.specs.Visits.{position_of, visit_at}
use Rattle.build_plan.specs.Placing.{Placed, holds, stops, placed_all, walked_all}
use Rattle.build_plan.specs.Plan.{of_banks}
use Rattle.output.specs.Output.{Input, closed_of, visits_of, passes_of, settled_of}
use Rattle.build_visits.specs.declared.Visit.{Visit}
use Rattle.build_map.specs.declared.Reach.{Reach}
use Rattle.build_map.specs.declared.Map.{Map}

-- ---- how far a layout that settled goes: 9 to 13

abbrev pub whole_reach : ℕ → Reach
whole_reach n = record { verdict = Accepted; nodes = n; fault = None }

-- refused at the last of so many nodes
abbrev pub stopped_reach : Verdict → ℕ → Reach
stopped_reach verdict walked = record { verdict = verdict; nodes = walked; fault = Some (walked - 1) }

abbrev pub traced_by : ℕ → Placed → Reach
traced_by walked (holds stored) = whole_reach walked
traced_by walked (stops why) = stopped_reach (Err why) walked

-- "The build walks the nodes and tries 9, 10, 11, 12, 13 at each": all nodes, or those up to and with the one at which it is refused
abbrev pub traced : Bool → List Visit → Reach
traced closed vs = traced_by (walked_all closed vs) (placed_all closed vs)

-- ---- how far the passes go: 1 to 8

-- "Places: .. 5, 6, 7 .. the node"
abbrev pub first_in : Place → ℕ
first_in (One p) = p
first_in (Two p q) = p

abbrev pub node_of : Refusal → ℕ
node_of why = first_in (place_of why)

-- Of n nodes, those that stand somewhere. "5: a position would pass 4,294,967,295", and the node sees none: those before it. "7: a label in the last pass is
-- off an address boundary": those up to and with it. "8: the last pass ended unresolved": all. What is refused before any pass shows none.
abbrev pub nodes_met : ℕ → Refusal → ℕ
nodes_met n why =
    pick (eqb (number_of why) 5) (node_of why)
    (pick (eqb (number_of why) 7) (suc (node_of why))
    (pick (eqb (number_of why) 8) n 0))

abbrev pub fault_met : Refusal → Option ℕ
fault_met why = pick (eqb (number_of why) 5) (Some (node_of why)) (pick (eqb (number_of why) 7) (Some (node_of why)) None)

abbrev pub met_reach : ℕ → Refusal → Reach
met_reach n why = record { verdict = Err why; nodes = nodes_met n why; fault = fault_met why }

abbrev pub settled_reach : Bool → List Visit → ℕ → Result ℕ Refusal → Reach
settled_reach closed vs n (Err why) = met_reach n why
settled_reach closed vs n (Ok k) = traced closed vs

-- ---- the answer

-- "The build uses the row of the last pass", and so does the map.
abbrev pub reach_of : Input → Reach
reach_of b = settled_reach (closed_of b) (visits_of b (passes_of b)) (length b.lists.kinds) (settled_of b)

-- "the sum of bits lost to `align` and to label alignment" (document 02, Ticket 2) by the first n nodes, and of whole units, of banks 0 to 15
abbrev pub paddings_to : Program → Row → ℕ → List Lost
paddings_to p row n = of_banks (λ bank. padding_to p row bank n)

abbrev pub map_by : ℕ → Reach → List Lost → Map
map_by passes reach padding =
    record { verdict = reach.verdict; passes = passes; nodes = reach.nodes; fault = reach.fault; padding = padding }

unfoldable pub map_of : Input → Map
map_of b =
    map_by (passes_of b) (reach_of b) (paddings_to (program b.banks b.lists) (row_of_pass b.lists (passes_of b)) (reach_of b).nodes)

-- ---- the verdict in document 01's figures: a refusal's number and place

abbrev pub placed_told : Placed → Told Nothing
placed_told (stops why) = told_refusal why
placed_told (holds stored) = gives nothing

-- 1 to 8 are told by the passes, 9 to 13 by the first node that is refused
abbrev pub settled_told : Input → Result ℕ Refusal → Told Nothing
settled_told b (Err why) = told_refusal why
settled_told b (Ok k) = placed_told (placed_all (closed_of b) (visits_of b (passes_of b)))

-- ---- what is lent

-- Four lists, with a place for each of 4,096 nodes.
pub record Lent : Type 0 where
  pub banks : List ℕ
  pub positions : List ℕ
  pub outputs : List ℕ
  pub sizes : List ℕ

abbrev pub lent : List ℕ → List ℕ → List ℕ → List ℕ → Lent
lent banks positions outputs sizes = record { banks = banks; positions = positions; outputs = outputs; sizes = sizes }

-- what is shown of node i: the bank that it stands in, the position that it sees, "offset plus position" as a word, the largest for none, and the bits of an
-- item or a reserve
abbrev pub bank_shown : Program → Row → ℕ → ℕ
bank_shown p row i = (visit_at p row i).bank

abbrev pub position_shown : Program → Row → ℕ → ℕ
position_shown p row i = position_of (visit_at p row i)

abbrev pub output_shown : Program → Row → ℕ → ℕ
output_shown p row i = word_of (visit_at p row i).out

abbrev pub size_shown : Program → Row → ℕ → ℕ
size_shown p row i = size_of (visit_at p row i).node

-- a list with the entries of the first n nodes, and its old contents past them
abbrev pub shown : ℕ → (ℕ → ℕ) → List ℕ → List ℕ
shown n f old = list_of n f ++ drop n old

abbrev pub left_by : Program → Row → ℕ → Lent → Lent
left_by p row n old =
    record {
      banks = shown n (bank_shown p row) old.banks;
      positions = shown n (position_shown p row) old.positions;
      outputs = shown n (output_shown p row) old.outputs;
      sizes = shown n (size_shown p row) old.sizes;
    }

-- ---- the contract

-- The call's statement: the answer, and everything lent afterwards.
pub record Maps (b : Input) (old : Lent) (r : Map) (new : Lent) : Type 0 where
  pub answer : r ≡ map_of b
  pub told : told_verdict r.verdict ≡ settled_told b (settled_of b)
  pub left : new ≡ left_by (program b.banks b.lists) (row_of_pass b.lists r.passes) r.nodes old
