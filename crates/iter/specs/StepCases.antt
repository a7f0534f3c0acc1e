-- A step has two outcomes: refused, with the walk as given, or moved, with one position set. What holds of both holds of every step.
use Rattle.std.specs.Prelude.{get_or}
use Rattle.iter.specs.Step.{origin, bank_after}
use Rattle.iter.specs.declared.Pos.{Pos}
use Rattle.nodes.specs.declared.Node.{Node}
use Rattle.iter.specs.declared.Walk.{Walk}

-- the position in the bank that the node stands in, before the step
abbrev pub standing : Walk → Node → Pos
standing walk node = get_or walk.at (bank_after walk.bank node) origin
