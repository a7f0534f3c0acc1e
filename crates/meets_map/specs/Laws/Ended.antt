-- How far a layout goes that has passed its checks, by what its passes come to and by what the build comes to at its nodes: in the map and in the sentences.
use Rattle.std.specs.Prelude.{◌≡◌, refl, List, ◌⊎◌, Err, Some, Ok}
use Rattle.std.proofs.Common.{sym, subst, ◌∙◌, inl, inr, ⊎_elim, add-one, arith, le-ltb}
use Rattle.std.proofs.Math.Path.{ap}
use Prim.Native.Nat.{ℕ, suc, ◌+◌, ◌-◌, ◌≤◌, min}
use Rattle.prelude.specs.Refusals.{number_of, place_of}
use Rattle.prelude.specs.declared.Place.TheVariants.{One}
use Rattle.prelude.specs.declared.Refusal.{Refusal}
use Rattle.prelude.specs.declared.Refusal.TheVariants.{Unresolved as EndedUnresolved}
use Rattle.prelude.specs.Verdict.{Verdict}
use Rattle.iter.specs.declared.Lost.{Lost}
use Rattle.overlap_checker.specs.State.{State}
use Rattle.overlap_checker.specs.Folds.{state_after}
use Rattle.resolver.specs.Layout.{Checked}
use Rattle.resolver.specs.Passes.{resolution_of}
use Rattle.resolver.proofs.RefusedExactly.{checked-passes}
use Rattle.resolver.specs.declared.Resolution.{Resolution}
use Rattle.build_plan.specs.Placing.{Placed, holds, stops, placed_if, placed_all, offer_of}
use Rattle.build_plan.specs.Laws.PlacingLaws.{stops-holds}
use Rattle.output.specs.Calls.{Call, closed_in, visits_in, visit_in, program_in, row_in}
use Rattle.output.specs.OffersMade.{FirstRefused}
use Rattle.output.proofs.OffersMade.{refused-where}
use Rattle.output.specs.Output as out
use Rattle.output.specs.Output.{Input, room_of, build_of, closed_of, visits_of, passes_of, settled_of}
use Rattle.output.specs.declared.Output.{Output}
use Rattle.build_map.specs.Map.{reach_of, settled_reach, traced, met_reach, whole_reach}
use Rattle.build_map.specs.Laws.TracedLaws.{traced-stopped, traced-whole}
use Rattle.build_map.specs.Theorems.Reached.{checked-ran}
use Rattle.build_map.specs.declared.Reach.{Reach}
use Rattle.build_paged.specs.InProfile.{leaves}
use Rattle.c_answers.specs.Told.{first_of, second_of, layout_told}
use Rattle.c_tables.specs.Tables.{choices_by}
use Rattle.c_model.specs.Maps.{MapTold}
use Rattle.c_answers.specs.Maps.{ToldBy}
use Rattle.c_model.specs.Tables.{TablesTold}
use Rattle.c_answers.specs.declared.DkMap.{DkMap}
use Rattle.says.specs.Build as build
use Rattle.says.specs.Build.{Given, nodes, Reads}
use Rattle.meets_sentences.specs.Laws.Why.{nine-to-13}
use Rattle.meets_sentences.specs.Theorems.Outcomes.{stops-five-or-seven}
use Rattle.meets_sentences.specs.Typed.{Typed}
use Rattle.meets_build.specs.Laws.AtNode.{call}
use Rattle.meets_build.specs.Laws.Contract.{input_of}
use Rattle.meets_build.specs.Laws.Placed.{refuses-listed, stopped-build}
use Rattle.meets_build.specs.Laws.Refused.{none-refused, refused-first}
use Rattle.meets_build.specs.Laws.Run as run
use Rattle.meets_build.specs.Laws.Run.{Halts, SettledSo, passes-meet}
use Rattle.meets_build.specs.Laws.Shown.{Shown, listed}
use Rattle.meets_build.specs.Laws.Stops.{reads-row}
use Rattle.meets_build.specs.Laws.Table.{table}
use Rattle.meets_build.specs.Laws.Walk.{Goes}
use Rattle.meets_build.specs.Theorems.Meets as build-meets
use Rattle.meets_profile.specs.Laws.Sound.{by-definition}
use Rattle.says.specs.Map as m
use Rattle.says.specs.Map.{Lent, UpTo, Shows, Tried, Mapped}
use Rattle.meets_map.specs.Places.{Places, nothing}
use Rattle.meets_map.specs.Laws.Shown.{lent_of, outcome, row_now, shows-of}

-- a layout that is refused for 5 or more is told so
told-stopped : (why : Refusal) (node : ℕ) → 5 ≤ number_of why → (n count : ℕ) (lost : List Lost)
    → ToldBy (Err why) node n count lost
    ≡ record {
      refusal = 0;
      stopped = number_of why;
      place = first_of (place_of why);
      second = second_of (place_of why);
      node = node;
      passes = n;
      nodes = count;
      padding = lost;
    }
told-stopped why node h n count lost = rw (le-ltb (number_of why) 5 h)

module _ (g : Given) (typed : Typed g) (old : Lent) (places : Places old) (r : DkMap) (new : Lent)
    (told : MapTold (input_of g typed) (lent_of old) r (lent_of new)) (is : Shown g (table g)) (ck : Checked (table g) (listed g) g.fill) where
  abbrev b : Input
  b = input_of g typed

  abbrev n : ℕ
  n = passes_of b

  abbrev row : ℕ
  row = row_now g typed old r new told

  -- the passes decide
  same : resolution_of (table g) (listed g) g.limit ≡ record { settled = settled_of b; passes = n }
  same = sym (checked-passes (table g) (listed g) (choices_by g.limit g.fill g.closed) ck)

  reads : Reads g n row
  reads = reads-row g (table g) is ck n (let some = checked-ran b ck in counted some)
    where
      counted : (n ≡ 0 → ⊥) → 1 ≤ n
      counted some = omega arith

  -- ---- what the passes are refused for

  module _ (why : Refusal) (settled : settled_of b ≡ Err why) where
    reach-met : reach_of b ≡ met_reach (nodes g) why
    reach-met = ap (settled_reach (closed_of b) (visits_of b n) (nodes g)) settled

    stop-shows : (i : ℕ) → place_of why ≡ One i → (number_of why ≡ 5) ⊎ (number_of why ≡ 7)
        → (c : ℕ) × UpTo g i (number_of why) c × Shows g old n row c (number_of why) i 0 i (outcome g typed old r new told)
    stop-shows i place (inl five) = (
      i,
      subst (λ (x : ℕ). UpTo g i x i) (sym five) m.before,
      shows-of g typed old r new told places is ck (record { verdict = Err why; nodes = i; fault = Some i }) (reach-met ∙ rw (five, place))
          (number_of why) i 0 i (λ p c l. told-stopped why i (omega arith) p c l ∙ rw place),
    )
    stop-shows i place (inr seven) = (
      suc i,
      subst (λ (x : ℕ). UpTo g i x (suc i)) (sym seven) m.with_it,
      shows-of g typed old r new told places is ck (record { verdict = Err why; nodes = suc i; fault = Some i }) (reach-met ∙ rw (seven, place))
          (number_of why) i 0 i (λ p c l. told-stopped why i (omega arith) p c l ∙ rw place),
    )

    halted : Halts g (table g) is ck why n → Mapped g old (outcome g typed old r new told)
    halted (run.early {i = i} h l go f s p) =
        let x = stop-shows i p (stops-five-or-seven g nothing s) in
        m.stops h l go f s reads x.1 x.2
    halted (run.at_last {i = i} l f s p) =
        let x = stop-shows i p (stops-five-or-seven g nothing s) in
        m.last-stops l f s reads x.1 x.2
    halted (run.unsettled l runs u e) =
        m.unresolved l runs u reads
        (shows-of g typed old r new told places is ck (met_reach (nodes g) EndedUnresolved) (reach-met ∙ ap (met_reach (nodes g)) e) 8 0 0 m.no_node
        (λ p c l. refl))

    pub refused-mapped : Mapped g old (outcome g typed old r new told)
    refused-mapped =
        halted
        (subst (λ (x : Resolution). (why : Refusal) → x.settled ≡ Err why → Halts g (table g) is ck why x.passes) same
        (passes-meet g (table g) is ck nothing).0 why settled)

  -- ---- what the build comes to at its nodes

  module _ (k : ℕ) (settled : settled_of b ≡ Ok k) where
    settles : SettledSo g (table g) is ck nothing k n
    settles =
        subst (λ (x : Resolution). (k : ℕ) → x.settled ≡ Ok k → SettledSo g (table g) is ck nothing k x.passes) same
        (passes-meet g (table g) is ck nothing).1 k settled

    -- the build of the layout, lent nothing
    abbrev lent : out.Lent
    lent = build-meets.lent_of nothing

    abbrev built : Output
    built = build_of b (room_of lent)

    abbrev contract : TablesTold b lent (layout_told built) (leaves b lent built)
    contract = by-definition g typed lent

    abbrev c : Call
    c = call g typed is ck lent built (leaves b lent built) contract.built

    all : Goes g (table g) is ck (min built.passes g.rows - 1) (nodes g)
    unfolding build_of
    all j h = ((settles.past j h).now, (settles.past j h).seen)

    reach-traced : reach_of b ≡ traced (closed_in c) (visits_in c)
    unfolding build_of
    reach-traced = ap (settled_reach (closed_of b) (visits_of b n) (nodes g)) settled

    placed-whole : (s : State) → placed_all (closed_in c) (visits_in c) ≡ holds s → Tried g old n row (outcome g typed old r new told)
    unfolding build_of
    placed-whole s e =
        m.placed
        (λ i z.
        none-refused g typed is ck lent built (leaves b lent built) contract.built all k settled (nodes g) (omega arith) s e i (refuses-listed g z) z)
        (shows-of g typed old r new told places is ck (whole_reach (nodes g)) (reach-traced ∙ traced-whole (program_in c) (row_in c) (closed_in c) s e) 0 0 0
        m.no_node (λ p c l. refl))

    stops_at : (why : Refusal) (f : FirstRefused c why) → reach_of b ≡ record { verdict = Err why; nodes = suc f.n; fault = Some f.n }
    stops_at why f =
        reach-traced
        ∙ traced-stopped (program_in c) (row_in c) (closed_in c) f.n f.stored why f.listed f.before
        (ap (λ (v : Verdict). placed_if v (state_after f.stored (offer_of (visit_in c f.n)))) f.verdict)
        ∙ at f.n (add-one f.n) (let back : f.n + 1 - 1 ≡ f.n = omega arith in back)
      where
        at : (i : ℕ) {x y : ℕ} → x ≡ suc i → y ≡ i
            → ◌≡◌ {A = Reach} (record { verdict = Err why; nodes = x; fault = Some y })
            (record { verdict = Err why; nodes = suc i; fault = Some i })
        at i e f = rw (e, f)

    placed-stops : (why : Refusal) → FirstRefused c why → Tried g old n row (outcome g typed old r new told)
    unfolding build_of
    placed-stops why f =
        let x = refused-first g typed is ck lent built (leaves b lent built) contract.built all k settled why f in
        let high = (nine-to-13 g x.why).0 in
        m.refused x
        (shows-of g typed old r new told places is ck (record { verdict = Err why; nodes = suc f.n; fault = Some f.n }) (stops_at why f)
        (number_of why) (first_of (place_of why)) (second_of (place_of why)) f.n (told-stopped why f.n (omega arith)))

    tries : (q : Placed) → placed_all (closed_in c) (visits_in c) ≡ q → Tried g old n row (outcome g typed old r new told)
    tries (holds s) e = placed-whole s e
    tries (stops why) e =
        let turned = stopped-build g typed lent (layout_told built) (leaves b lent built) contract.answer contract.built k settled why e in
        ⊎_elim (λ f. placed-stops why f) (λ f. absurd (stops-holds (sym e ∙ f.1))) (refused-where c k settled why turned)

    pub settled-mapped : Mapped g old (outcome g typed old r new told)
    settled-mapped = m.tried settles.last settles.runs settles.not-unresolved reads (tries (placed_all (closed_in c) (visits_in c)) refl)
