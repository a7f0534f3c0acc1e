-- `write_entries` meets its contract. The loop's invariant is `Writing`: each node is met by a law of EntryLaws.
use Prim.Native.Nat.{◌-◌}
use Rattle.build_map.specs.Steps.{program_of, row_of}
use Rattle.build_map.proofs.EntryLaws.{Writing}
use Rattle.build_map.proofs.rows.LastRow.write_entries.Given as goal

abbrev pub invariant-loop-i : goal.invariant-loop-i
invariant-loop-i l =
    Writing (program_of l.self) (row_of l.self) l.nodes l.i l.walk l.initial.banks_of l.initial.positions
    l.initial.outputs l.initial.sizes l.banks_of l.positions l.outputs l.sizes

abbrev pub decreases-loop-i : goal.decreases-loop-i
decreases-loop-i l = l.nodes - l.i
