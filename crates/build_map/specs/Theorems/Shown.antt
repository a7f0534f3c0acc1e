-- Which nodes a map shows, by what the layout is refused for: none before any pass, those before the node of a 5, up to and with the node of a 7, all for 8 and
-- where nothing is refused.
use Rattle.std.specs.Prelude.{◌≡◌, ℕ, suc, Result, Err, Some, None}
use Rattle.std.proofs.Math.Path.{refl}
use Rattle.std.proofs.Common.{sym, ap, ◌∙◌}
use Rattle.prelude.specs.declared.Refusal.{Refusal}
use Rattle.prelude.specs.declared.Refusal.TheVariants.{LabelOffBoundary}
use Rattle.bitvec.specs.Lists.{list_of}
use Rattle.resolver.specs.Figures.{OffInLast}
use Rattle.resolver.proofs.RefusedExactly.{seven-exactly}
use Rattle.resolver.specs.Laws.Told.{by-figures}
use Rattle.output.specs.Output.{closed_of, visits_of, passes_of, settled_of}
use Rattle.build_map.specs.Calls.{Call, program_in, row_in, nodes_in}
use Rattle.build_map.specs.Laws.Calls.{reach_in}
use Rattle.build_map.specs.Theorems.Calls.{passes-are, reach-is}
use Rattle.build_map.specs.Map.{met_reach, settled_reach, Lent, left_by}
use Rattle.build_map.specs.Theorems.Reached.{none-run}
use Rattle.build_map.specs.declared.Reach.{Reach}

module _ (c : Call) where
  settled-reach : (s : Result ℕ Refusal) → settled_of c.given ≡ s
      → reach_in c.answer ≡ settled_reach (closed_of c.given) (visits_of c.given (passes_of c.given)) (nodes_in c) s
  settled-reach s e =
      reach-is c ∙ ap (settled_reach (closed_of c.given) (visits_of c.given (passes_of c.given)) (nodes_in c)) e

  refused-reach : (why : Refusal) → settled_of c.given ≡ Err why → reach_in c.answer ≡ met_reach (nodes_in c) why
  refused-reach why e = settled-reach (Err why) e

  -- "7: a label in the last pass is off an address boundary", node i
  pub seven-shows-the-label : (i : ℕ) → OffInLast c.given.banks c.given.lists c.given.choices i
      → (c.answer.nodes ≡ suc i) × (c.answer.fault ≡ Some i)
  seven-shows-the-label i s =
      let b = c.given in
      let r = refused-reach (LabelOffBoundary i) (by-figures (settled_of b) (LabelOffBoundary i) ((seven-exactly b.banks b.lists b.choices i).1 s)) in
      (ap (λ (x : Reach). x.nodes) r, ap (λ (x : Reach). x.fault) r)

  none_left : (old : Lent) → left_by (program_in c) (row_in c) 0 old ≡ old
  unfolding list_of
  none_left old = refl

  -- What is refused before any pass shows nothing and changes nothing that is lent.
  pub unrun-shows-none : c.answer.passes ≡ 0 → (c.answer.nodes ≡ 0) × (c.answer.fault ≡ None) × (c.new ≡ c.old)
  unrun-shows-none e =
      let r = reach-is c ∙ none-run c.given (sym (passes-are c) ∙ e) in
      let none : c.answer.nodes ≡ 0 = ap (λ (x : Reach). x.nodes) r in (
        none,
        ap (λ (x : Reach). x.fault) r,
        c.meets.left ∙ ap (λ (n : ℕ). left_by (program_in c) (row_in c) n c.old) none ∙ none_left c.old,
      )
