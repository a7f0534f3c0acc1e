-- Theorems about what Ragged defines.
use Rattle.std.specs.Prelude.{ℕ, ◌≤◌, ◌*◌, ◌≡◌, Bool, true, false}
use Rattle.std.proofs.Common.{◌∙◌, arith, le-ltb}
use Rattle.prelude.specs.Laws.Pick.{pick-false}
use Rattle.bankdef.specs.Check.{first_pair}
use Rattle.bankdef.specs.Fill.{full_length}
use Rattle.bankdef.specs.Search.{first_where}
use Rattle.iter.specs.Step.{start_of, seen_of, moved_on, advanced_of, seen_skips, advance_skips, step_of}
use Rattle.overlap_checker.specs.Folds.{state_after}
use Rattle.overlap_checker.specs.Interval.{shares_bit, strictly_inside, clashes, past_limits}
use Rattle.overlap_checker.specs.Marks.{count_below, crosses_any, lowest_inside}
use Rattle.overlap_checker.specs.Offers.{place_for, clashes_any, lacks_room}
use Rattle.overlap_checker.specs.State.{meets, tries, keeping, after}
use Rattle.resolver.specs.Layout.{layout_of}
use Rattle.nodes.specs.Lists.{any_row_fault, nodes_to, lists_of}
use Rattle.resolver.specs.Once.{walk_to, pass_to}
use Rattle.resolver.specs.Passes.{first, settled_by}
use Rattle.build_visits.specs.Items.{length_of}
use Rattle.output.specs.Output.{Room, room_for, build_of}
use Rattle.output.specs.Built.{done_with}
use Rattle.build_plan.specs.Placing.{checked, placed_from}
use Rattle.build_visits.specs.Visits.{visits_to, each}
use Rattle.build_profile.specs.Kept.{InProfile}
use Rattle.build_profile.specs.Theorems.Kept.{said-kept}
use Rattle.build_paged.specs.Laws.Ragged.{rules-kept}
use Rattle.build_paged.specs.Ragged.{three_bits}

-- It keeps the profile of a device with pages of 16 bits,
pub three-bits-kept : (filled : Bool) → InProfile (three_bits filled).banks (three_bits filled).lists 16
three-bits-kept filled = said-kept (three_bits filled).banks (three_bits filled).lists 16 (rules-kept filled)

module _ (room : Room) (wide : 2 ≤ room.image) (long : 1 ≤ room.spans) where
  enough : (bits : ℕ) → bits ≤ 16 → room_for room 1 bits 1 ≡ done_with 1 bits 1
  enough bits low =
      pick-false _ _ (le-ltb (8 * room.image) bits (omega arith)) ∙ pick-false _ _ (le-ltb room.spans 1 (omega arith))

  -- and with bank 1 not filled the image ends with the item, at 3 bits,
  pub unfilled-length-3 : (build_of (three_bits false) room).build ≡ done_with 1 3 1
  unfolding build_of layout_of lists_of nodes_to any_row_fault settled_by first pass_to walk_to start_of seen_of moved_on advanced_of seen_skips advance_skips step_of
      first_where first_pair full_length length_of checked placed_from visits_to each
      state_after shares_bit strictly_inside clashes past_limits count_below crosses_any lowest_inside place_for clashes_any lacks_room meets tries keeping after
  unfilled-length-3 = enough 3 (omega arith)

  -- filled, at the end of its page.
  pub filled-length-16 : (build_of (three_bits true) room).build ≡ done_with 1 16 1
  unfolding build_of layout_of lists_of nodes_to any_row_fault settled_by first pass_to walk_to start_of seen_of moved_on advanced_of seen_skips advance_skips step_of
      first_where first_pair full_length length_of checked placed_from visits_to each
      state_after shares_bit strictly_inside clashes past_limits count_below crosses_any lowest_inside place_for clashes_any lacks_room meets tries keeping after
  filled-length-16 = enough 16 (omega arith)
