-- "5: a position would pass 4,294,967,295", of the walk of a pass: the walk is stopped for 5 at a node exactly when the bits that the node adds,
-- or those to the label alignment of a symbol, would take its bank's position past the limit; and no position of the walk ever is past it.
use Rattle.std.specs.Prelude.{◌≡◌, ◌⊎◌, Ok}
use Rattle.bankdef.specs.declared.Bankdef.{Bankdef}
use Rattle.iter.specs.AdvanceFacts.{PassesLimit, SightPasses}
use Rattle.iter.specs.Step.{seen_of}
use Rattle.iter.specs.StepCases.{standing}
use Rattle.nodes.specs.declared.Node.{Node}
use Rattle.iter.specs.declared.Pos.{Pos}
use Rattle.iter.specs.declared.Walk.{Walk}

-- A position would pass the limit at a node: a symbol of depth 0 is aligned past it, or the node's own advance goes past it from what it sees.
abbrev pub WouldPass : Bankdef → Walk → Node → Type 0
WouldPass def walk n =
    SightPasses def (standing walk n) n ⊎ ((p : Pos) × (seen_of def (standing walk n) n ≡ Ok p) × PassesLimit def p n)
