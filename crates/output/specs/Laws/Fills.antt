-- Laws that Theorems/Fills rests on.
use Rattle.std.specs.Prelude.{◌≡◌, ℕ, ◌*◌, ◌≤◌, Result}
use Rattle.std.proofs.Common.{ap, ◌∙◌, arith, le-ltb}
use Rattle.prelude.specs.Laws.Pick.{pick-false}
use Rattle.prelude.specs.declared.Refusal.{Refusal}
use Rattle.bankdef.specs.Check.{first_pair}
use Rattle.bankdef.specs.Fill.{fill_from, full_length}
use Rattle.bankdef.specs.Search.{first_where}
use Rattle.resolver.specs.Layout.{layout_of}
use Rattle.nodes.specs.Lists.{nodes_to, lists_of}
use Rattle.resolver.specs.Once.{pass_to}
use Rattle.resolver.specs.Passes.{first, settled_by}
use Rattle.build_visits.specs.Visits.{visits_to, each}
use Rattle.build_visits.specs.Items.{length_of}
use Rattle.build_plan.specs.Placing.{placed_from}
use Rattle.output.specs.Output.{Input, Lent, Room, room_of, room_for, build_of, Builds}
use Rattle.output.specs.declared.Output.{Output}
use Rattle.output.specs.Fills.{lock_build}
use Rattle.output.specs.declared.Built.{Built}
use Rattle.output.specs.Built.{done_with}

module _ (room : Room) (wide : 2 ≤ room.image) where
  enough : (bits : ℕ) → bits ≤ 9 → room_for room 1 bits 0 ≡ done_with 1 bits 0
  enough bits low =
      pick-false _ _ (le-ltb (8 * room.image) bits (omega arith)) ∙ pick-false _ _ (le-ltb room.spans 0 (omega arith))

  pub inherited-lock : ((build_of (lock_build 0 0) room).build ≡ done_with 1 8 0) × ((build_of (lock_build 1 0) room).build ≡ done_with 1 8 0)
  unfolding build_of layout_of lists_of nodes_to settled_by first pass_to first_where first_pair fill_from length_of placed_from visits_to each
  inherited-lock = (enough 8 (omega arith), enough 8 (omega arith))

  pub full-lock : ((build_of (lock_build 0 1) room).build ≡ done_with 1 9 0) × ((build_of (lock_build 1 1) room).build ≡ done_with 1 9 0)
  unfolding build_of layout_of lists_of nodes_to settled_by first pass_to first_where first_pair full_length length_of placed_from visits_to each
  full-lock = (enough 9 (omega arith), enough 9 (omega arith))

pub built : {b : Input} {old : Lent} {r : Output} {new : Lent} {x : Result Built Refusal} → Builds b old r new → (build_of b (room_of old)).build ≡ x → r.build ≡ x
built p e = ap (λ (o : Output). o.build) p.answer ∙ e
