-- Laws that Theorems/StepFacts rests on.
use Rattle.std.specs.Prelude.{◌≡◌, false, Ok, Err}
use Rattle.prelude.specs.Laws.Bools.{unlike}
use Rattle.prelude.specs.Laws.Pick.{pick-false}
use Rattle.prelude.specs.declared.Refusal.{Refusal}
use Rattle.bankdef.specs.declared.Bankdef.{Bankdef}
use Rattle.iter.specs.Step.{outermost_symbol, seen_of}
use Rattle.iter.specs.declared.Pos.{Pos}
use Rattle.nodes.specs.declared.Node.{Node}

pub never : (p : Pos) (why : Refusal) → Ok p ≡ Err why → ⊥
never p why e = unlike cc

-- A node that is no symbol of depth 0 sees the position as it is; so does each node in a bank without label alignment.
pub sees_plain : (def : Bankdef) (at : Pos) (node : Node) → outermost_symbol node ≡ false → seen_of def at node ≡ Ok at
unfolding seen_of
sees_plain def at node e = pick-false _ _ e
