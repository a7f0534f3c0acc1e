-- `form_lists::read_rows` meets its contract. The invariant: the rows passed stand in the lists, and behind them their old contents.
use Prim.Native.Nat.{◌+◌, ◌-◌, ◌*◌, ◌≤◌}
use mathlib.Core.Path.{◌≡◌}
use mathlib.Core.List.{◌++◌}
use lib.ListN.{length, drop}
use Rattle.form_fields.specs.Lists.{cells}
use Rattle.form_fields.specs.Words.{byte, word32}
use Rattle.form_lists.proofs.read_rows.Given as goal

abbrev pub invariant-loop-r : goal.invariant-loop-r
invariant-loop-r l = (l.r ≤ l.rows)
    × (length l.numbers ≡ length l.initial.numbers)
    × (length l.states ≡ length l.initial.states)
    × (l.numbers ≡ cells (word32 l.file) l.nodes (l.at + 3) l.r ++ drop (l.r * l.nodes) l.initial.numbers)
    × (l.states ≡ cells (byte l.file) l.nodes (l.at + 7) l.r ++ drop (l.r * l.nodes) l.initial.states)

abbrev pub decreases-loop-r : goal.decreases-loop-r
decreases-loop-r l = l.rows - l.r
