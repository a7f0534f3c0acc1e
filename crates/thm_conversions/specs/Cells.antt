-- The lists with the switch ahead: each row has its zero and then what it had, and each node what it had, one place later.
use Rattle.std.specs.Prelude.{◌*◌, ◌≡◌, ◌∷◌, length}
use Rattle.nodes.specs.Lists.{Lists, Row}

-- ---- rows and nodes

-- a row with the switch's zeros ahead
abbrev pub zeroed : Row → Row
zeroed row = record { numbers = 0 ∷ row.numbers; states = 0 ∷ row.states }

-- Lists as long as their counts say.
pub record Counted (l : Lists) : Type 0 where
  pub operands : length l.operands ≡ length l.kinds
  pub numbers : length l.numbers ≡ l.rows * length l.kinds
  pub states : length l.states ≡ l.rows * length l.kinds
