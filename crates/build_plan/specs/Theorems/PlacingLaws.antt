-- Theorems about what PlacingLaws defines.
use Rattle.std.specs.Prelude.{◌≡◌, refl, Bool, ◌&&◌, ℕ, ◌+◌, Option, Err}
use Rattle.prelude.specs.Pick.{pick}
use Rattle.prelude.specs.declared.Refusal.TheVariants.{DefaultBank, PastBank, NoOutput}
use Rattle.prelude.specs.Verdict.{Accepted}
use Rattle.bankdef.specs.declared.Bankdef.{Bankdef}
use Rattle.nodes.specs.Kinds.{size_of}
use Rattle.nodes.specs.declared.Node.{Node}
use Rattle.iter.specs.declared.Pos.{Pos}
use Rattle.build_visits.specs.Items.{is_written}
use Rattle.build_plan.specs.Placing.{uses_default, ends_past, lacks_output, checked}

-- 9, 10 and 11 in this order
pub checked-opens : (closed : Bool) (bank : ℕ) (def : Bankdef) (n : Node) (at : Pos) (out : Option ℕ)
    → checked closed bank def n at out
    ≡ pick (uses_default closed bank) (Err (DefaultBank n.index))
    (pick (ends_past def.size (at.position + size_of n)) (Err (PastBank n.index))
    (pick (is_written n && lacks_output out) (Err (NoOutput n.index)) Accepted))
unfolding checked
checked-opens closed bank def n at out = refl
