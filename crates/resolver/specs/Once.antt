-- One pass: a function of its row and of the row of the pass before (document 01, "The walk" and "Passes").
use Rattle.std.specs.Prelude.{ℕ, zero, suc, ◌/◌, max, Bool, false, not, ◌&&◌, List, eqb, leb, get_or, length, Result, Ok, Err}
use Rattle.prelude.specs.Pick.{pick}
use Rattle.prelude.specs.declared.Refusal.{Refusal}
use Rattle.prelude.specs.declared.Refusal.TheVariants.{LabelOffBoundary}
use Rattle.bankdef.specs.Check.{no_bank, banks_of}
use Rattle.bankdef.specs.declared.Bankdef.{Bankdef}
use Rattle.bankdef.specs.declared.Bankdefs.{Bankdefs}
use Rattle.iter.specs.Address.{on_boundary}
use Rattle.iter.specs.Step.{bank_after, step_of, start_of}
use Rattle.nodes.specs.declared.Node.{Node}
use Rattle.iter.specs.declared.Pos.{Pos}
use Rattle.iter.specs.declared.Walk.{Walk}
use Rattle.iter.specs.declared.Stepped.{Stepped}
use Rattle.nodes.specs.Kinds.{is_label}
use Rattle.nodes.specs.Lists.{Row, node_at}

-- What stays the same from row to row: the banks, the nodes' kinds and operands, and the first row's numbers.
pub record Program : Type 0 where
  pub banks : Bankdefs
  pub kinds : List ℕ
  pub operands : List ℕ
  pub first : List ℕ

-- a program by its parts
abbrev pub program_with : Bankdefs → List ℕ → List ℕ → List ℕ → Program
program_with banks kinds operands first = record { banks = banks; kinds = kinds; operands = operands; first = first }

abbrev pub node : Program → Row → ℕ → Node
node p row i = node_at p.kinds p.operands p.first row i

-- the record of a bank that the table lists; for every other number one of unit 0, of which no address can be told
abbrev pub bank_record : Bankdefs → ℕ → Bankdef
bank_record banks bank = get_or (banks_of banks) bank no_bank

-- the record of the bank that a node stands in
abbrev pub bank_of : Bankdefs → Walk → Node → Bankdef
bank_of banks walk n = bank_record banks (bank_after walk.bank n)

-- the step over node i of a row
abbrev pub step_at : Program → Row → Walk → ℕ → Stepped
step_at p row walk i = step_of (bank_of p.banks walk (node p row i)) walk (node p row i)

-- where the walk of a row stands before node i. "Each bank's position starts at 0, known, and is kept through switches. The walk begins in bank 0."
unfoldable pub walk_to : Program → Row → ℕ → Walk
walk_to p row zero = start_of
walk_to p row (suc i) = (step_at p row (walk_to p row i) i).walk

-- "its address equals that of the pass before": the addresses of two positions in one bank, in whole units
abbrev pub same_address : Bankdef → Pos → Result Pos Refusal → Bool
same_address def now (Ok before) = eqb (now.position / def.unit) (before.position / def.unit)
same_address def now (Err why) = false

-- "a label is resolved when its position is known and on a boundary, stable when its address equals that of the pass before (never in pass 1),
-- unresolved otherwise"
abbrev pub label_state : Bankdef → Pos → Result Pos Refusal → Bool → ℕ
label_state def now before is_first =
    pick (now.known && on_boundary def now.position) 0
    (pick (not is_first && same_address def now before) 1 2)

-- "Kinds .. 0, 1 and 2 don't read the state": a node's state in a pass
abbrev pub state_of : Node → ℕ → ℕ
state_of n label = pick (leb n.kind 1) 0 (pick (is_label n.kind) label n.state)

-- A pass under way: the walk and the states merged so far; or the first refusal.
pub data Going : Type 0 where
  on : Walk → ℕ → Going
  off : Refusal → Going

-- "7: a label in the last pass is off an address boundary"
abbrev pub off_boundary : Bankdef → Node → Pos → Bool → Bool
off_boundary def n now is_last = is_last && (is_label n.kind && not (on_boundary def now.position))

-- "A pass is unresolved if any state is 2, stable if any is 1, otherwise resolved": the largest state, with what a node adds to it
abbrev pub met : Bankdef → Node → Result Pos Refusal → Bool → Bool → ℕ → Result Pos Refusal → Result ℕ Refusal
met def n before is_first is_last merged (Err why) = Err why
met def n before is_first is_last merged (Ok now) =
    pick (off_boundary def n now is_last)
    (Err (LabelOffBoundary n.index))
    (Ok (max merged (state_of n (label_state def now before is_first))))

abbrev pub goes_on : Walk → Result ℕ Refusal → Going
goes_on walk (Ok merged) = on walk merged
goes_on walk (Err why) = off why

-- "Then each pass in node order meets 5, 6 and 7": node i met by a pass under way
abbrev pub meets : Program → Row → Row → Bool → Bool → ℕ → Going → Going
meets p row before is_first is_last i (off why) = off why
meets p row before is_first is_last i (on walk merged) =
    goes_on (step_at p row walk i).walk
    (met (bank_of p.banks walk (node p row i)) (node p row i) (step_at p before (walk_to p before i) i).seen is_first is_last merged (step_at p row walk i).seen)

-- the pass over the first i nodes
unfoldable pub pass_to : Program → Row → Row → Bool → Bool → ℕ → Going
pass_to p row before is_first is_last zero = on start_of 0
pass_to p row before is_first is_last (suc i) = meets p row before is_first is_last i (pass_to p row before is_first is_last i)

abbrev pub closed : Going → Result ℕ Refusal
closed (on walk merged) = Ok merged
closed (off why) = Err why

-- the whole pass
abbrev pub pass_of : Program → Row → Row → Bool → Bool → Result ℕ Refusal
pass_of p row before is_first is_last = closed (pass_to p row before is_first is_last (length p.kinds))
