-- How far a map goes, by what the passes come to: where none is run nothing is shown, and each node that is shown sees a position in the row of the last.
use Rattle.std.specs.Prelude.{◌≡◌, refl, Bool, true, false, ℕ, suc, ◌≤◌, ◌<◌, eqb, length, Err, None, Result, Ok}
use Rattle.std.proofs.Common.{sym, ap, subst, ◌∙◌, arith, eqb-true, ne_eqb}
use Rattle.std.proofs.Math.Decide.{dec_lt}
use Rattle.prelude.specs.Pick.{pick}
use Rattle.prelude.specs.Refusals.{number_of}
use Rattle.prelude.specs.Told.{refuses}
use Rattle.prelude.specs.declared.Place.TheVariants.{One}
use Rattle.prelude.specs.declared.Refusal.{Refusal}
use Rattle.bankdef.specs.Check.{check_of}
use Rattle.iter.specs.declared.Pos.{Pos}
use Rattle.resolver.specs.Figures.{Figures, PastFirst, OffInLast, LastUnresolved}
use Rattle.resolver.proofs.LastPass.{accepted-checked, sees-in-last}
use Rattle.resolver.specs.Layout.{unless, layout_of, Checked}
use Rattle.nodes.specs.Lists.{lists_of}
use Rattle.resolver.specs.NodeOrder.{seen_at}
use Rattle.resolver.specs.Laws.Padding.{Walks}
use Rattle.resolver.specs.Passes.{program, row_of_pass, pass_at, resolution_of}
use Rattle.resolver.proofs.RefusedExactly.{checked-passes, eight-at-end, layout-figures}
use Rattle.resolver.proofs.Run.{passes-bounded}
use Rattle.resolver.specs.Told.{told_settled}
use Rattle.resolver.specs.declared.Resolution.{Resolution}
use Rattle.output.specs.Output.{Input, closed_of, visits_of, passes_of, settled_of}
use Rattle.build_map.specs.Map.{node_of, nodes_met, settled_reach, traced, reach_of}
use Rattle.build_map.specs.Steps.{verdict_of}
use Rattle.build_plan.specs.Laws.Walked.{visits-long}
use Rattle.build_map.specs.Laws.TracedLaws.{traced-few}
use Rattle.build_map.specs.Laws.Reached.{eight-place, one_place, ran, told-as}

module _ (b : Input) where
  -- ---- what is refused by a pass

  figures : Figures b.banks b.lists b.choices (layout_of b.banks b.lists b.choices)
  figures = layout-figures b.banks b.lists b.choices

  module _ (why : Refusal) (settled : settled_of b ≡ Err why) where
    told : (n : ℕ) → number_of why ≡ n → 4 ≤ n → n ≤ 11 → told_settled (settled_of b) ≡ refuses n (One (node_of why))
    told n e low high = ap told_settled settled ∙ told-as why e (one_place why (omega arith) (omega arith))

    five : number_of why ≡ 5 → PastFirst b.banks b.lists b.choices (node_of why)
    five e = (figures.five (node_of why)).0 (told 5 e (omega arith) (omega arith))

    seven : number_of why ≡ 7 → OffInLast b.banks b.lists b.choices (node_of why)
    seven e = (figures.seven (node_of why)).0 (told 7 e (omega arith) (omega arith))

    eight : number_of why ≡ 8 → LastUnresolved b.banks b.lists b.choices
    eight e = figures.eight.0 (ap told_settled settled ∙ told-as why e (eight-place why e))

  -- ---- whether a pass is run

  -- where one is, the banks and the lists have passed their checks;
  pub ran-checked : (passes_of b ≡ 0 → ⊥) → Checked b.banks b.lists b.choices.fill
  unfolding layout_of
  ran-checked some =
      let inner = resolution_of b.banks b.lists b.choices.limit in
      let (table, same) = ran (check_of b.banks) (unless (lists_of b.banks.len b.lists b.choices.fill) inner) some in
      let (listed, also) = ran (lists_of b.banks.len b.lists b.choices.fill) inner (λ e. some (ap (λ (q : Resolution). q.passes) same ∙ e)) in
      record { table = table; lists = listed }

  -- where they have, one is.
  pub checked-ran : Checked b.banks b.lists b.choices.fill → passes_of b ≡ 0 → ⊥
  checked-ran c none =
      let n : passes_of b ≡ (resolution_of b.banks b.lists b.choices.limit).passes =
      ap (λ (q : Resolution). q.passes) (checked-passes b.banks b.lists b.choices c) in
      let some = (passes-bounded (pass_at b.banks b.lists) b.choices.limit).0 in
      omega (arith, n, some)

  -- Where no pass is run, no node is shown and none is at fault.
  pub none-run : passes_of b ≡ 0 → reach_of b ≡ record { verdict = verdict_of (settled_of b); nodes = 0; fault = None }
  none-run none = by (settled_of b) refl
    where
      by : (s : Result ℕ Refusal) → settled_of b ≡ s
          → settled_reach (closed_of b) (visits_of b (passes_of b)) (length b.lists.kinds) s ≡ record { verdict = verdict_of s; nodes = 0; fault = None }
      by (Ok k) e = absurd (checked-ran (accepted-checked b.banks b.lists b.choices k e) none)
      by (Err why) e =
          let not5 : number_of why ≡ 5 → ⊥ = λ q. checked-ran (five why e q).checked none in
          let not7 : number_of why ≡ 7 → ⊥ = λ q. checked-ran (seven why e q).checked none in
          let not8 : number_of why ≡ 8 → ⊥ = λ q. checked-ran (eight why e q).checked none in
          rw (ne_eqb (number_of why) 5 not5, ne_eqb (number_of why) 7 not7, ne_eqb (number_of why) 8 not8)

  -- ---- what is shown

  -- The first m nodes are some of the list's, and each sees a position in the row of the last pass.
  pub record Seen (m : ℕ) : Type 0 where
    pub few : m ≤ length b.lists.kinds
    pub walks : Walks (program b.banks b.lists) (row_of_pass b.lists (passes_of b)) m

  seen-in : (pass m : ℕ) → passes_of b ≡ pass → m ≤ length b.lists.kinds
      → ((j : ℕ) → j < m → (now : Pos) × (seen_at (program b.banks b.lists) (row_of_pass b.lists pass) j ≡ Ok now)) → Seen m
  seen-in pass m e few walks =
      record {
        few = few;
        walks = subst (λ (n : ℕ). Walks (program b.banks b.lists) (row_of_pass b.lists n) m) (sym e) walks;
      }

  -- no more nodes are met than there are
  met-few : (why : Refusal) → settled_of b ≡ Err why → nodes_met (length b.lists.kinds) why ≤ length b.lists.kinds
  met-few why settled = go (eqb (number_of why) 5) refl (eqb (number_of why) 7) refl (eqb (number_of why) 8) refl
    where
      go : (x : Bool) → eqb (number_of why) 5 ≡ x → (y : Bool) → eqb (number_of why) 7 ≡ y → (z : Bool) → eqb (number_of why) 8 ≡ z
          → nodes_met (length b.lists.kinds) why ≤ length b.lists.kinds
      go true e y f z g = let h = (five why settled (eqb-true (number_of why) 5 e)).listed in rw e (omega arith)
      go false e true f z g = let h = (seven why settled (eqb-true (number_of why) 7 f)).listed in rw (e, f) (omega arith)
      go false e false f true g = rw (e, f, g) (omega arith)
      go false e false f false g = rw (e, f, g) (omega arith)

  traced-sees : (k : ℕ) → settled_of b ≡ Ok k → Seen (traced (closed_of b) (visits_of b (passes_of b))).nodes
  traced-sees k settled =
      let row = row_of_pass b.lists (passes_of b) in
      let few : (traced (closed_of b) (visits_of b (passes_of b))).nodes ≤ length b.lists.kinds =
      omega (arith, traced-few (closed_of b) (visits_of b (passes_of b)), visits-long (program b.banks b.lists) row (length b.lists.kinds)) in
      record { few = few; walks = λ j h. sees-in-last b.banks b.lists b.choices k settled j (omega arith) }

  -- No more nodes have an entry than there are.
  pub shown-few : (reach_of b).nodes ≤ length b.lists.kinds
  shown-few = by (settled_of b) refl
    where
      by : (s : Result ℕ Refusal) → settled_of b ≡ s
          → (settled_reach (closed_of b) (visits_of b (passes_of b)) (length b.lists.kinds) s).nodes ≤ length b.lists.kinds
      by (Ok k) e = (traced-sees k e).few
      by (Err why) e = met-few why e

  -- Each node that has an entry is one of the list's and sees a position in the row of the last pass.
  pub shown-sees : Seen (reach_of b).nodes
  shown-sees = by (settled_of b) refl
    where
      past : (why : Refusal) → settled_of b ≡ Err why → number_of why ≡ 5 → Seen (node_of why)
      past why settled e =
          let s = five why settled e in
          seen-in s.pass (node_of why) (figures.run-five (node_of why) s) (let h = s.listed in omega arith)
          (λ j h. let g = s.before j h in (g.now, g.seen))

      off : (why : Refusal) → settled_of b ≡ Err why → number_of why ≡ 7 → Seen (suc (node_of why))
      off why settled e =
          let s = seven why settled e in
          seen-in s.pass (suc (node_of why)) (figures.run-seven (node_of why) s) s.listed
          (λ j h.
          elim (dec_lt j (node_of why)) [
            | yes below ↦ (let g = s.before j below in (g.now, g.seen))
            | no same ↦ (
              s.here.now,
              subst (λ (k : ℕ). seen_at (program b.banks b.lists) (row_of_pass b.lists s.pass) k ≡ Ok s.here.now)
                  (let is : node_of why ≡ j = omega arith in is) s.here.seen,
            )
          ])

      open-end : (why : Refusal) → settled_of b ≡ Err why → number_of why ≡ 8 → Seen (length b.lists.kinds)
      open-end why settled e =
          let s = eight why settled e in
          seen-in s.pass (length b.lists.kinds) (figures.run-eight s) (omega arith)
          (λ j h. let g = eight-at-end b.banks b.lists b.choices s j h in (g.now, g.seen))

      go : (why : Refusal) → settled_of b ≡ Err why
          → (x : Bool) → eqb (number_of why) 5 ≡ x → (y : Bool) → eqb (number_of why) 7 ≡ y → (z : Bool) → eqb (number_of why) 8 ≡ z
          → Seen (pick x (node_of why) (pick y (suc (node_of why)) (pick z (length b.lists.kinds) 0)))
      go why settled true e y f z g = past why settled (eqb-true (number_of why) 5 e)
      go why settled false e true f z g = off why settled (eqb-true (number_of why) 7 f)
      go why settled false e false f true g = open-end why settled (eqb-true (number_of why) 8 g)
      go why settled false e false f false g = record { few = omega arith; walks = λ j h. absurd (let z : ⊥ = omega arith in z) }

      met-sees : (why : Refusal) → settled_of b ≡ Err why → Seen (nodes_met (length b.lists.kinds) why)
      met-sees why settled = go why settled (eqb (number_of why) 5) refl (eqb (number_of why) 7) refl (eqb (number_of why) 8) refl

      by : (s : Result ℕ Refusal) → settled_of b ≡ s
          → Seen (settled_reach (closed_of b) (visits_of b (passes_of b)) (length b.lists.kinds) s).nodes
      by (Ok k) e = traced-sees k e
      by (Err why) e = met-sees why e

  -- the node of a 7 is one of the list's
  pub off-listed : (why : Refusal) → settled_of b ≡ Err why → number_of why ≡ 7 → node_of why < length b.lists.kinds
  off-listed why settled e = (seven why settled e).listed
