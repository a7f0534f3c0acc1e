-- The pass so far is the definition's, and the loop's positions are those of the row and, where it is held against another, of that row beside it. Held against
-- itself a row sees what it sees. A refusal met once stays.
use Prim.Native.Nat.{◌-◌, ◌≤◌}
use mathlib.Core.Path.{◌≡◌}
use mathlib.Core.Bool.{false}
use lib.ListN.{length}
use Rattle.nodes.specs.Lists.{row_with}
use Rattle.resolver.specs.Once.{program_with, pass_to, walk_to, on}
use Rattle.resolver.specs.Stands.{Stands}
use Rattle.resolver.proofs.once.walk_rows.Given as goal

abbrev pub invariant-loop-i : goal.invariant-loop-i
invariant-loop-i l = let p = program_with l.banks l.nodes.kinds.now l.nodes.operands.now l.nodes.first.now in
    let row = row_with l.row.numbers.now l.row.states.now in
    let before = row_with l.row_before.numbers.now l.row_before.states.now in
    (l.i-end ≡ length l.nodes.kinds.now) × (l.i ≤ l.i-end) × (pass_to p row before l.is_first l.is_last l.i ≡ on (walk_to p row l.i) l.merged) × Stands p row l.i l.walks.at l.bank
    × (l.alone ≡ false → Stands p before l.i l.walks.old l.bank)

abbrev pub decreases-loop-i : goal.decreases-loop-i
decreases-loop-i l = l.i-end - l.i
