-- `write_nodes` meets its contract: the nodes passed stand in the buffer, and those left have room.
use Prim.Native.Nat.{◌+◌, ◌-◌, ◌*◌, ◌≤◌}
use Rattle.print_text.specs.Puts.{Writes}
use Rattle.print_map.specs.Steps.{nodes_held}
use Rattle.print_map.proofs.records.write_nodes.Given as goal

abbrev pub invariant-loop-i : goal.invariant-loop-i
invariant-loop-i l =
    (l.i ≤ l.nodes) × (l.end ≤ l.at + 160 * l.i) × Writes (nodes_held l.banks l.kinds l.banks_of l.positions l.outputs l.sizes l.i) l.initial.out
    l.at l.end l.out

abbrev pub decreases-loop-i : goal.decreases-loop-i
decreases-loop-i l = l.nodes - l.i
