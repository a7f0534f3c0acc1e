-- What the two checks have shown of the banks before a pass is run: every node stands in a bank that the table lists.
use Rattle.std.specs.Prelude.{ℕ, ◌<◌, ◌≤◌, ◌≡◌, List, get_or, length}
use Rattle.prelude.specs.Limits.{max_banks}
use Rattle.nodes.specs.Lists.{Lists, Rows}

-- "banks, bank 0 included: 1 to 16", and each bank switch names one of them
pub record Switches (banks : ℕ) (kinds operands : List ℕ) : Type 0 where
  pub some : 1 ≤ banks
  pub few : banks ≤ max_banks
  pub named : (i : ℕ) → get_or kinds i 0 ≡ 1 → get_or operands i 0 < banks

-- and of the lists: an operand for each node, and whole rows
pub record Ready (banks : ℕ) (l : Lists) : Type 0 where
  pub paired : length l.operands ≡ length l.kinds
  pub rowed : Rows (length l.kinds) l.rows l.numbers l.states
  pub banked : Switches banks l.kinds l.operands
