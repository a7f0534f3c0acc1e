-- A pass walks its row, and the largest of its nodes' states is what it comes to.
use Rattle.std.specs.Prelude.{ℕ, Bool, Result, Ok, Err}
use Rattle.iter.specs.declared.Pos.{Pos}
use Rattle.prelude.specs.declared.Refusal.{Refusal}
use Rattle.bankdef.specs.declared.Bankdef.{Bankdef}
use Rattle.nodes.specs.declared.Node.{Node}
use Rattle.resolver.specs.Once.{label_state, state_of}

-- the state of a node that sees a position
abbrev pub state_seen : Bankdef → Node → Result Pos Refusal → Bool → Result Pos Refusal → ℕ
state_seen def n before is_first (Ok now) = state_of n (label_state def now before is_first)
state_seen def n before is_first (Err why) = 0
