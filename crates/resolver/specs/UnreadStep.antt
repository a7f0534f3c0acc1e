-- A step reads of a node what document 01 says that its kind reads: two nodes that agree there make one step.
use Rattle.std.specs.Prelude.{◌≤◌, ◌≡◌}
use Rattle.nodes.specs.Kinds.{ReadsNumber}
use Rattle.nodes.specs.declared.Node.{Node}

-- Two nodes agree in what their kind reads. "The operand is a bank for 1, a depth for 2 and 3, a starting bit in the value bytes for 4 to 6,
-- otherwise unread." "Kinds 0 to 3 and 10 don't read the number; 0, 1 and 2 don't read the state."
pub record SameRead (n m : Node) : Type 0 where
  pub index : n.index ≡ m.index
  pub kind : n.kind ≡ m.kind
  pub operand : 1 ≤ m.kind → m.kind ≤ 6 → n.operand ≡ m.operand
  pub number : ReadsNumber m.kind → n.number ≡ m.number
  pub state : 3 ≤ m.kind → n.state ≡ m.state
