-- A step in numbers: a node's crossing told by numbers alone, so that a loop may hold it and store it into its own walk.
use Rattle.std.specs.Prelude.{ℕ, ◌+◌, ◌≡◌, Bool, false, eqb, leb, ℤ, Result, Ok, Err, Option, None}
use Rattle.prelude.specs.Limits.{max_position}
use Rattle.prelude.specs.Pick.{pick}
use Rattle.prelude.specs.Refusals.{number_of}
use Rattle.prelude.specs.declared.Refusal.{Refusal}
use Rattle.prelude.specs.declared.Refusal.TheVariants.{Malformed, PositionPast}
use Rattle.bankdef.specs.declared.Bankdef.{Bankdef}
use Rattle.iter.specs.Crossing.{crossing_of}
use Rattle.iter.specs.Distance.{no_skip}
use Rattle.iter.specs.Step.{origin}
use Rattle.iter.specs.declared.Crossing.{Crossing}
use Rattle.nodes.specs.declared.Node.{Node}
use Rattle.iter.specs.declared.Paced.{Paced}
use Rattle.iter.specs.declared.Pos.{Pos}
use Rattle.iter.specs.declared.Skipped.{Skipped}

-- the number of what a step is refused for; 0 where it is made
abbrev pub fault_in : Result Pos Refusal → ℕ
fault_in (Ok p) = 0
fault_in (Err why) = number_of why

-- the position that is seen; a node that is refused sees none, and counts as at the start
abbrev pub seen_in : Result Pos Refusal → Pos
seen_in (Ok p) = p
seen_in (Err why) = origin

-- a crossing's numbers
abbrev pub numbers_of : Crossing → Paced
numbers_of c = record { fault = fault_in c.seen; seen = seen_in c.seen; after = c.after; skipped = c.skipped }

-- "4: the list or a call's number is malformed", "5: a position would pass 4,294,967,295": a step meets no other refusal
abbrev pub why_by : ℕ → ℕ → Refusal
why_by fault index = pick (eqb fault 4) (Malformed index) (PositionPast index)

-- what the node sees, by the numbers
abbrev pub seen_by : Paced → ℕ → Result Pos Refusal
seen_by p index = pick (eqb p.fault 0) (Ok p.seen) (Err (why_by p.fault index))

-- the crossing that the numbers tell
abbrev pub crossed_by : ℕ → Paced → Crossing
crossed_by index p = record { seen = seen_by p index; skipped = p.skipped; after = p.after }

-- What `pace` promises: its numbers are those of the node's crossing, and tell all of it.
abbrev pub Paces : Bankdef → Pos → Node → Paced → Type 0
Paces def at node p = (p ≡ numbers_of (crossing_of def at node)) × (crossed_by node.index p ≡ crossing_of def at node)

-- ---- the shapes that a step has

-- a step that is made
abbrev pub made_by : Pos → Pos → Skipped → Paced
made_by seen after s = record { fault = 0; seen = seen; after = after; skipped = s }

-- one that is refused: nothing is skipped, and the position is the one given
abbrev pub halted_by : Pos → ℕ → Paced
halted_by at fault = record { fault = fault; seen = origin; after = at; skipped = no_skip }

-- a position moved on by so many bits
abbrev pub onward : Pos → ℕ → Bool → Pos
onward at bits known = record { position = at.position + bits; known = known }

-- "4 to 7 add their number, 8 adds the distance to alignment": the node sees the position before it
abbrev pub added_by : Pos → ℕ → Bool → Skipped → Paced
added_by at bits known lost = pick (leb (at.position + bits) max_position) (made_by at (onward at bits known) lost) (halted_by at 5)

-- "a symbol (label or constant) of depth 0 in a bank with label alignment is aligned first": the node sees the position after it
abbrev pub aligned_by : Pos → Skipped → Paced
aligned_by at s =
    pick (leb (at.position + s.bits) max_position)
    (made_by (onward at s.bits at.known) (onward at s.bits at.known) s)
    (halted_by at 5)

-- a node that sees its bank's position wherever it is, leaves it so and skips nothing
abbrev pub Still : Bankdef → Node → Type 0
Still def node = (at : Pos) → Paces def at node (made_by at at no_skip)

-- ---- a step's parts

-- what a step reads of a bank's record: its address unit, its start and its label alignment
abbrev pub bank_read : ℕ → ℤ → Option ℕ → Bankdef
bank_read unit start align = record { unit = unit; start = start; size = None; offset = None; align = align; fill = false; fill_bit = 0 }

-- a node by its parts
abbrev pub node_with : ℕ → ℕ → ℕ → ℕ → ℕ → Node
node_with index kind operand number state = record { index = index; kind = kind; operand = operand; number = number; state = state }
