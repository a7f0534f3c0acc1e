-- The walk carries each bank's padding: at the end of a row whose nodes were all placed its sums are those of the definition.
use Rattle.std.specs.Prelude.{Ok}
use mathlib.Core.Path.{◌≡◌, refl, sym, ◌∙◌}
use mathlib.Core.Bool.{Bool}
use Prim.Native.Nat.{ℕ, zero, suc, ◌≤◌, ◌<◌}
use native.Mathlib.Omega.{arith}
use lib.ListN.{length, length-set}
use lib.Seq.{ext_get_or}
use Rattle.prelude.specs.Limits.{max_banks, max_nodes}
use Rattle.iter.specs.Step.{no_lost, start_of, bank_after}
use Rattle.iter.specs.Laws.StepCases.{step-cases}
use Rattle.iter.specs.declared.Pos.{Pos}
use Rattle.iter.specs.declared.Stepped.{Stepped}
use Rattle.nodes.specs.Lists.{Row}
use Rattle.resolver.specs.NodeOrder.{seen_at}
use Rattle.resolver.specs.Once.{Program, node, bank_of, walk_to}
use Rattle.resolver.specs.Padding.{padding_of}
use Rattle.resolver.specs.Theorems.Padding.{walk-carries-padding}
use Rattle.overlap_checker.specs.State.{State, empty_state}
use Rattle.build_visits.specs.Visits.{visit_at, visits}
use Rattle.build_visits.specs.Laws.VisitLaws.{visit-member}
use Rattle.build_plan.specs.Placing.{holds, placed_all}
use Rattle.build_plan.specs.Laws.PlacingLaws.{each-accepted, seen-placing}
use Rattle.build_plan.specs.Laws.Plan.{length-of-banks, get_d-of-banks}
use Rattle.build_plan.specs.Plan.{paddings_of}

module _ (p : Program) (row : Row) where
  -- a sum for each of sixteen banks
  sixteen : (n : ℕ) → length (walk_to p row n).lost ≡ max_banks
  unfolding walk_to start_of
  sixteen zero = refl
  sixteen (suc i) =
      let walk = walk_to p row i in
      step-cases (bank_of p.banks walk (node p row i)) walk (node p row i) (λ (s : Stepped). length s.walk.lost ≡ length walk.lost) (λ why. refl)
      (λ s q e a. length-set walk.lost (bank_after walk.bank (node p row i)) _)
      ∙ sixteen i

  -- a node that was placed sees a position
  sees : (closed : Bool) (s : State) → placed_all closed (visits p row) ≡ holds s → (j : ℕ) → j < length p.kinds → (now : Pos) × (seen_at p row j ≡ Ok now)
  sees closed s placed j h =
      let (t, acc) = each-accepted closed empty_state s (visits p row) placed (visit-member p row (length p.kinds) j h) in
      let seen = seen-placing closed t (visit_at p row j) (visit_at p row j).seen acc in
      (seen.0, seen.1)

  pub carried : (closed : Bool) (s : State) → length p.kinds ≤ max_nodes → placed_all closed (visits p row) ≡ holds s
      → (walk_to p row (length p.kinds)).lost ≡ paddings_of p row
  carried closed s few placed =
      ext_get_or no_lost (walk_to p row (length p.kinds)).lost (paddings_of p row)
      (sixteen (length p.kinds) ∙ sym (length-of-banks (padding_of p row)))
      (λ j h.
      let low : j < max_banks = omega (arith, sixteen (length p.kinds)) in
      walk-carries-padding p row (length p.kinds) j few (sees closed s placed) ∙ sym (get_d-of-banks (padding_of p row) j low))
