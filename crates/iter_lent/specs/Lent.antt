-- The lent record after an advance, and the answer (document 01, "The walk"; document 02, Ticket 2: "Everything that uses the distance
-- passes both on").
use Rattle.std.specs.Prelude.{◌≡◌}
use Rattle.bankdef.specs.declared.Bankdef.{Bankdef}
use Rattle.iter.specs.Crossing.{crossing_of}
use Rattle.iter.specs.Pace.{numbers_of}
use Rattle.iter.specs.declared.Paced.{Paced}
use Rattle.iter.specs.declared.Pos.{Pos}
use Rattle.nodes.specs.declared.Node.{Node}
use Rattle.iter_lent.specs.declared.Left.{Left}

-- "A bank's position record is lent to the advance and updated there": it holds where the step leads, and the answer has the step's numbers
abbrev pub left_by : Bankdef → Pos → Node → Left
left_by def was node = record { at = (crossing_of def was node).after; step = numbers_of (crossing_of def was node) }

-- The contract of the advance over the lent record: what the record holds afterwards, and the step's numbers, refused or not.
pub record Advanced (def : Bankdef) (was : Pos) (node : Node) (left : Pos) (answer : Paced) : Type 0 where
  pub place : left ≡ (crossing_of def was node).after
  pub step : answer ≡ numbers_of (crossing_of def was node)
