-- "A field that isn't read isn't checked", and changes nothing: two lists that differ only in fields that no kind reads get one answer.
use Rattle.std.specs.Prelude.{ℕ, ◌+◌, ◌*◌, ◌≤◌, ◌<◌, ◌≡◌, get_or, length}
use Rattle.nodes.specs.Kinds.{last_kind, ReadsNumber}
use Rattle.nodes.specs.Lists.{Lists}

-- Lists with the same kinds and rows, as long as each other, that agree wherever a kind reads: operands of kinds 1 to 6; numbers where a kind reads it,
-- but of kind 5 in the first row alone; states from kind 3 on. Of the value bytes a layout reads how many there are.
pub record AgreeWhereRead (l m : Lists) : Type 0 where
  pub kinds : l.kinds ≡ m.kinds
  pub rows : l.rows ≡ m.rows
  pub operand-count : length l.operands ≡ length m.operands
  pub number-count : length l.numbers ≡ length m.numbers
  pub state-count : length l.states ≡ length m.states
  pub value-count : length l.values ≡ length m.values
  pub operands : (i : ℕ) → i < length m.kinds → 1 ≤ get_or m.kinds i 0 → get_or m.kinds i 0 ≤ 6 → get_or l.operands i 0 ≡ get_or m.operands i 0
  pub numbers :
      (r i : ℕ)
      → r < m.rows
      → i < length m.kinds
      → ReadsNumber (get_or m.kinds i 0)
      → (get_or m.kinds i 0 ≡ 5 → r ≡ 0)
      → get_or l.numbers (r * length m.kinds + i) 0 ≡ get_or m.numbers (r * length m.kinds + i) 0
  pub states :
      (r i : ℕ)
      → r < m.rows
      → i < length m.kinds
      → 3 ≤ get_or m.kinds i 0
      → get_or m.kinds i 0 ≤ last_kind
      → get_or l.states (r * length m.kinds + i) 0 ≡ get_or m.states (r * length m.kinds + i) 0
