-- One step of the two walks: in bank 0 of the layout with one bank, and in bank 1 of the layout with a bank 1, where a node's number is one higher.
use Rattle.std.specs.Prelude.{suc, eqb}
use Rattle.prelude.specs.Pick.{pick}
use Rattle.nodes.specs.declared.Node.{Node}

-- a node as it stands behind the switch: one number higher, and a switch goes to bank 1
abbrev pub up : Node → Node
up n = record { index = suc n.index; kind = n.kind; operand = pick (eqb n.kind 1) 1 n.operand; number = n.number; state = n.state }
