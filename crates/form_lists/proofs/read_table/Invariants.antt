-- `form_lists::read_table` meets its contract. The invariant: the first i banks, and behind them what stood there.
use mathlib.Core.Path.{◌≡◌}
use mathlib.Core.List.{◌++◌}
use lib.ListN.{drop}
use Rattle.form_fields.specs.Banks.{banks_in}
use Rattle.form_lists.proofs.read_table.Given as goal

abbrev pub invariant-loop-i : goal.invariant-loop-i
invariant-loop-i l = l.def-items ≡ banks_in l.kind l.file l.i ++ drop l.i l.initial.def-items
