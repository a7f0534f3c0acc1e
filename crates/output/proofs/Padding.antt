-- Theorems about what Padding defines.
use Rattle.std.specs.Prelude.{◌≡◌, List, ℕ, ◌+◌, ◌*◌, ◌<◌, get_or}
use Rattle.std.proofs.Math.Path.{refl}
use Rattle.std.proofs.Common.{sym, ap, ◌∙◌, arith, le-ltb}
use Rattle.prelude.specs.Limits.{max_banks}
use Rattle.prelude.specs.Laws.Pick.{pick-false}
use Rattle.bankdef.specs.Check.{first_pair}
use Rattle.bankdef.specs.Fill.{fill_from}
use Rattle.bankdef.specs.Search.{first_where}
use Rattle.bitvec.specs.Lists.{list_of}
use Rattle.iter.specs.Distance.{distance_of}
use Rattle.iter.specs.Step.{origin, no_lost, start_of, seen_of, moved_on, advanced_of, seen_skips, advance_skips, step_of}
use Rattle.iter.specs.declared.Lost.{Lost}
use Rattle.resolver.specs.KnownInPass.{bank_at}
use Rattle.resolver.specs.Layout.{layout_of}
use Rattle.nodes.specs.Lists.{nodes_to, any_row_fault, lists_of}
use Rattle.resolver.specs.Once.{walk_to, pass_to}
use Rattle.resolver.specs.Passes.{first, settled_by}
use Rattle.resolver.specs.Padding.{sum_in, padding_of}
use Rattle.resolver.specs.Laws.Padding.{sizes_to, Walks}
use Rattle.resolver.specs.Theorems.Padding.{ends-at-sizes-and-padding}
use Rattle.build_visits.specs.Visits.{visits_to, each}
use Rattle.build_visits.specs.Items.{length_of}
use Rattle.build_plan.specs.Placing.{checked, placed_from}
use Rattle.build_visits.specs.Laws.VisitLaws.{visit-member}
use Rattle.build_plan.specs.Laws.PlacingLaws.{each-accepted, seen-placing}
use Rattle.output.specs.Output.{Lent, Room, room_of, room_for, padding_by, build_of, Builds}
use Rattle.build_plan.specs.Plan.{paddings_of}
use Rattle.build_plan.specs.Laws.Plan.{get_d-of-banks}
use Rattle.output.specs.Calls.{Accepted, program_in, row_in, nodes_in, visit_in, visits_in, closed_in}
use Rattle.output.proofs.Calls.{fine}
use Rattle.output.proofs.CallsLaws.{padding-is}
use Rattle.output.specs.declared.Output.{Output}
use Rattle.output.specs.Padding.{reserve_then_align, seven_bits}
use Rattle.output.specs.Built.{done_with}

module _ (a : Accepted) where
  sums : a.call.answer.padding ≡ paddings_of (program_in a.call) (row_in a.call)
  sums = padding-is a.call ∙ ap (padding_by (paddings_of (program_in a.call) (row_in a.call))) a.done

  -- A bank's figures are the sum of the bits that its `align` nodes and its symbols of depth 0 lose, over the row of the last pass, and the sum of the whole
  -- units of each of these skips.
  pub padding-is-lost-bits : (bank : ℕ) → bank < max_banks
      → get_or a.call.answer.padding bank no_lost ≡ padding_of (program_in a.call) (row_in a.call) bank
  padding-is-lost-bits bank low =
      ap (λ (l : List Lost). get_or l bank no_lost) sums ∙ get_d-of-banks (padding_of (program_in a.call) (row_in a.call)) bank low

  -- every node sees a position in that row
  walks : Walks (program_in a.call) (row_in a.call) (nodes_in a.call)
  walks j h =
      let member = visit-member (program_in a.call) (row_in a.call) (nodes_in a.call) j h in
      let (t, acc) = each-accepted (closed_in a.call) _ (fine a).state (visits_in a.call) (fine a).placed member in
      let seen = seen-placing (closed_in a.call) t (visit_in a.call j) (visit_in a.call j).seen acc in
      (seen.0, seen.1)

  -- "When a bank is tight I want to know how much of it is padding": a bank that no `addr` touches ends at the bits of its items and reserves and
  -- its padding.
  pub bank-ends-at-sizes-and-padding : (bank : ℕ) → bank < max_banks
      → ((j : ℕ) → j < nodes_in a.call → bank_at (program_in a.call) (row_in a.call) j ≡ bank → get_or a.call.given.lists.kinds j 0 ≡ 9 → ⊥)
      → (get_or (walk_to (program_in a.call) (row_in a.call) (nodes_in a.call)).at bank origin).position
      ≡ sizes_to (program_in a.call) (row_in a.call) bank (nodes_in a.call) + (get_or a.call.answer.padding bank no_lost).bits
  bank-ends-at-sizes-and-padding bank low none =
      ends-at-sizes-and-padding (program_in a.call) (row_in a.call) (nodes_in a.call) bank walks none
      ∙ ap (λ (l : Lost). sizes_to (program_in a.call) (row_in a.call) bank (nodes_in a.call) + l.bits) (sym (padding-is-lost-bits bank low))

module _ (room : Room) where
  enough : room_for room 1 0 0 ≡ done_with 1 0 0
  enough = pick-false _ _ (le-ltb (8 * room.image) 0 (omega arith)) ∙ pick-false _ _ (le-ltb room.spans 0 (omega arith))

  -- the padding of an answer whose build is accepted
  told : (o : Output) (sums : List Lost) → o.padding ≡ padding_by sums o.build → o.build ≡ room_for room 1 0 0 → o.padding ≡ sums
  told o sums p b = p ∙ ap (padding_by sums) (b ∙ enough)

  second-row : (build_of (reserve_then_align 8 8 16) room).padding ≡ seven_bits
  unfolding build_of layout_of lists_of nodes_to any_row_fault settled_by first pass_to walk_to start_of seen_of moved_on advanced_of seen_skips advance_skips step_of
      first_where first_pair fill_from length_of placed_from visits_to each checked list_of sum_in distance_of
  second-row = told (build_of (reserve_then_align 8 8 16) room) _ refl refl

  neither-other : (build_of (reserve_then_align 4 8 16) room).padding ≡ seven_bits
  unfolding build_of layout_of lists_of nodes_to any_row_fault settled_by first pass_to walk_to start_of seen_of moved_on advanced_of seen_skips advance_skips step_of
      first_where first_pair fill_from length_of placed_from visits_to each checked list_of sum_in distance_of
  neither-other = told (build_of (reserve_then_align 4 8 16) room) _ refl refl

-- "in the last pass": rows with alignments 8, 8, 16, and 4, 8, 16, give 7 bits and no whole unit, which is row 2's.
pub padding-is-last-rows : (old : Lent) {r s : Output} {new other : Lent} → Builds (reserve_then_align 8 8 16) old r new
    → Builds (reserve_then_align 4 8 16) old s other
    → (r.padding ≡ seven_bits) × (s.padding ≡ seven_bits)
padding-is-last-rows old p q = (
  ap (λ (o : Output). o.padding) p.answer ∙ second-row (room_of old),
  ap (λ (o : Output). o.padding) q.answer ∙ neither-other (room_of old),
)
