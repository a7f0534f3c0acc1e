-- Theorems about what RaisedLimit defines.
use Rattle.std.specs.Prelude.{ℕ, ◌<◌, ◌≡◌, refl, [], ◌∷◌, Ok, Err}
use Rattle.std.proofs.Common.{sym, ap, ◌∙◌}
use Rattle.prelude.specs.declared.Refusal.TheVariants.{Unresolved}
use Rattle.bankdef.specs.Check.{first_pair}
use Rattle.bankdef.specs.Search.{first_where}
use Rattle.bankdef.specs.declared.Bankdefs.{Bankdefs}
use Rattle.iter.specs.Step.{start_of, seen_of, moved_on, advanced_of, step_of}
use Rattle.resolver.proofs.Answer.{accepted-layout, layout-passes}
use Rattle.resolver.specs.Cases.{one_bank, settled_at}
use Rattle.resolver.proofs.Ends.{settled-below}
use Rattle.resolver.specs.Layout.{by_default, with_limit, layout_of}
use Rattle.nodes.specs.Lists.{Lists, nodes_to, any_row_fault, lists_of}
use Rattle.resolver.specs.Once.{walk_to, pass_to}
use Rattle.resolver.specs.Passes.{pass_at, row_of_pass, first, settled_by}
use Rattle.resolver.specs.declared.Choices.{Choices}
use Rattle.resolver.specs.declared.Resolution.{Resolution}
use Rattle.resolver.specs.Laws.RaisedLimit.{below_again}
use Rattle.resolver.specs.RaisedLimit.{edge, edge_refused}

module _
    (banks : Bankdefs)
    (l : Lists)
    (choices : Choices)
    (k : ℕ)
    (accepted : (layout_of banks l choices).settled ≡ Ok k)
    (below : k < choices.limit) where
  -- Accepted with K below the limit: every limit above K, over the same other choices, gives the same answer, K and the passes run.
  pub same-for-limits-above : (n : ℕ) → k < n → layout_of banks l (with_limit choices n) ≡ layout_of banks l choices
  same-for-limits-above n more =
      let m = choices.limit in
      let is = (accepted-layout banks l choices k accepted).0 in
      layout-passes banks l choices k accepted (with_limit choices n) refl
      ∙ settled-below (pass_at banks l) n k (below_again (pass_at banks l) m n k is below more)
      ∙ sym (settled-below (pass_at banks l) m k (below_again (pass_at banks l) m m k is below below))
      ∙ sym (layout-passes banks l choices k accepted choices refl)

  -- So the last pass reads the same row.
  pub same-row-above : (n : ℕ) → k < n → row_of_pass l (layout_of banks l (with_limit choices n)).passes ≡ row_of_pass l (layout_of banks l choices).passes
  same-row-above n more = ap (λ (r : Resolution). row_of_pass l r.passes) (same-for-limits-above n more)

pub edge-moves :
    (layout_of one_bank edge (by_default 1) ≡ settled_at 1 1)
    × (layout_of one_bank edge (by_default 2) ≡ settled_at 1 2)
    × ((row_of_pass edge 1).numbers ≡ 1 ∷ [])
    × ((row_of_pass edge 2).numbers ≡ 2 ∷ [])
unfolding layout_of lists_of nodes_to any_row_fault settled_by first pass_to walk_to start_of seen_of moved_on advanced_of step_of first_where first_pair
edge-moves = (refl, refl, refl, refl)

pub edge-refused :
    (layout_of one_bank edge_refused (by_default 1) ≡ settled_at 1 1)
    × (layout_of one_bank edge_refused (by_default 2) ≡ record { settled = Err Unresolved; passes = 2 })
unfolding layout_of lists_of nodes_to any_row_fault settled_by first pass_to walk_to start_of seen_of moved_on advanced_of step_of first_where first_pair
edge-refused = (refl, refl)
