-- "4: the list .. is malformed: .. kind, bank number, state, .. value range": what a node is at fault for, exactly. A field that is not read is no part of it.
use Rattle.std.specs.Prelude.{ℕ, ◌+◌, ◌*◌, ◌<◌, ◌≤◌, ◌≡◌, get_or, length}
use Rattle.nodes.specs.declared.Node.{Node}
use Rattle.nodes.specs.Kinds.{last_kind}
use Rattle.nodes.specs.Lists.{Lists, node_of}

-- node i as row r shows it
abbrev pub shown_in : Lists → ℕ → ℕ → Node
shown_in l r i = node_of l.kinds l.operands l.numbers l.states r i

-- Node i of the lists is malformed, in a table of so many banks.
pub data FaultAt (banks : ℕ) (l : Lists) (i : ℕ) : Type 0 where
  -- "Any other kind number is refused."
  other_kind : last_kind < get_or l.kinds i 0 → FaultAt banks l i
  -- "The operand is a bank for 1"
  other_bank : get_or l.kinds i 0 ≡ 1 → banks ≤ get_or l.operands i 0 → FaultAt banks l i
  -- "state (0 resolved, 1 stable, 2 unresolved)"; "0, 1 and 2 don't read the state"
  other_state : (r : ℕ) → r < l.rows → 3 ≤ get_or l.kinds i 0 → 2 < (shown_in l r i).state → FaultAt banks l i
  -- "The item's starting bit plus its number must not pass the end of the value bytes, in any row."
  past_values : (r : ℕ) → r < l.rows → 4 ≤ get_or l.kinds i 0 → get_or l.kinds i 0 ≤ 6
      → 8 * length l.values < get_or l.operands i 0 + (shown_in l r i).number → FaultAt banks l i
