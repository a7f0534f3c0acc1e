-- `make_table` meets its contract. The invariant: the first i banks, and no bank behind them.
use Prim.Native.Nat.{◌-◌, ◌≤◌}
use mathlib.Core.Path.{◌≡◌}
use mathlib.Core.List.{◌++◌}
use lib.ListN.{replicate}
use Rattle.bankdef.specs.Check.{no_bank}
use Rattle.c_tables.specs.Tables.{given, banks_in}
use Rattle.c_tables.proofs.make_table.Given as goal

abbrev pub invariant-loop-i : goal.invariant-loop-i
invariant-loop-i l = (l.i ≤ l.count) × (l.defs ≡ banks_in (given l.units l.starts l.sizes l.offsets l.aligns l.flags l.bits) l.i ++ replicate (16 - l.i) no_bank)

abbrev pub decreases-loop-i : goal.decreases-loop-i
decreases-loop-i l = l.count - l.i
