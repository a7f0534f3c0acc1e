-- Positions never pass 4,294,967,295: not in a step, and not over any list of nodes.
use Rattle.std.specs.Prelude.{ℕ, ◌≤◌, List, [], ◌∷◌, get_or}
use Rattle.prelude.specs.Limits.{max_position}
use Rattle.bankdef.specs.declared.Bankdef.{Bankdef}
use Rattle.iter.specs.Step.{origin}
use Rattle.iter.specs.Step.{bank_after, step_of}
use Rattle.iter.specs.declared.Pos.{Pos}
use Rattle.nodes.specs.declared.Node.{Node}
use Rattle.iter.specs.declared.Walk.{Walk}

-- "position: 0 to 4,294,967,295"
abbrev pub Small : Pos → Type 0
Small p = p.position ≤ max_position

-- every bank's position is within the limit
abbrev pub AllSmall : Walk → Type 0
AllSmall walk = (j : ℕ) → Small (get_or walk.at j origin)

-- the walk after a list of nodes, each a step in its bank's record
abbrev pub walked_over : (ℕ → Bankdef) → Walk → List Node → Walk
walked_over defs walk [] = walk
walked_over defs walk (node ∷ nodes) = walked_over defs (step_of (defs (bank_after walk.bank node)) walk node).walk nodes
