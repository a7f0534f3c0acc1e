-- `dk_build` by its contract, where it is refused at a node of the build: the outcome is one that the sentences say, whole.
use Rattle.std.specs.Prelude.{◌≡◌, ℕ, ◌-◌, ◌≤◌, min, Err, Ok}
use Rattle.std.proofs.Math.Path.{refl}
use Rattle.std.proofs.Common.{sym, ap, subst, ◌∙◌}
use Rattle.prelude.specs.Laws.Bools.{unlike}
use Rattle.prelude.specs.declared.Refusal.{Refusal}
use Rattle.prelude.specs.Verdict.{Verdict, Accepted}
use Rattle.bankdef.specs.Check.{check_of}
use Rattle.nodes.specs.Lists.{lists_of}
use Rattle.output.specs.OffersMade.{FirstRefused}
use Rattle.output.specs.Output as out
use Rattle.output.specs.Output.{room_of, settled_of, passes_of, build_of, Builds}
use Rattle.resolver.specs.Layout.{Checked, unless, layout_of}
use Rattle.resolver.specs.Passes.{resolution_of}
use Rattle.resolver.specs.declared.Resolution.{Resolution}
use Rattle.c_tables.specs.Tables.{choices_by}
use Rattle.c_answers.specs.Told.{layout_told}
use Rattle.c_answers.specs.declared.DkLayout.{DkLayout}
use Rattle.says.specs.Build.{Given, nodes, Reads, Built, BuildSays}
use Rattle.meets_build.specs.Laws.Shown.{Shown, listed}
use Rattle.meets_sentences.specs.Typed.{Typed}
use Rattle.meets_build.specs.Laws.Table.{table, shown}
use Rattle.meets_build.specs.Laws.Walk.{Goes}
use Rattle.meets_build.specs.Laws.Stops.{reads-row}
use Rattle.meets_build.specs.Laws.Run.{SettledSo, passes-meet}
use Rattle.meets_build.specs.Laws.Checks.{answered}
use Rattle.meets_build.specs.Laws.Contract.{lent_so, input_of, outcome, refused-outcome, accepted-meets}
use Rattle.meets_build.specs.Laws.AtNode.{call, row_here}
use Rattle.meets_build.specs.Laws.Refused.{build-refused}

module _ (g : Given) (typed : Typed g) where
  never : {k : ℕ} {why : Refusal} → Err why ≡ Ok k → ⊥
  never e = unlike cc

  -- an accepted layout has passed its checks
  pub record Accepts (k : ℕ) : Type 0 where
    pub checked : Checked (table g) (listed g) g.fill
    pub settled : (resolution_of (table g) (listed g) g.limit).settled ≡ Ok k
    pub passes : passes_of (input_of g typed) ≡ (resolution_of (table g) (listed g) g.limit).passes

  abbrev res : Resolution
  res = resolution_of (table g) (listed g) g.limit

  abbrev whole : Resolution
  whole = layout_of (table g) (listed g) (choices_by g.limit g.fill g.closed)

  opens : whole ≡ unless (check_of (table g)) (unless (lists_of (table g).len (listed g) g.fill) res)
  unfolding layout_of
  opens = refl

  layout-at : (v w : Verdict) → check_of (table g) ≡ v → lists_of (table g).len (listed g) g.fill ≡ w → whole ≡ unless v (unless w res)
  layout-at v w e f =
      opens ∙ ap (λ (x : Verdict). unless x (unless (lists_of (table g).len (listed g) g.fill) res)) e ∙ ap (λ (x : Verdict). unless v (unless x res)) f

  pub accepts : (k : ℕ) → settled_of (input_of g typed) ≡ Ok k → Accepts k
  accepts k e = by (check_of (table g)) (lists_of (table g).len (listed g) g.fill) refl refl
    where
      by : (v w : Verdict) → check_of (table g) ≡ v → lists_of (table g).len (listed g) g.fill ≡ w → Accepts k
      by Accepted Accepted t f =
          let same = layout-at Accepted Accepted t f in
          record {
            checked = record { table = t; lists = f };
            settled = sym (ap (λ (x : Resolution). x.settled) same) ∙ e;
            passes = ap (λ (x : Resolution). x.passes) same;
          }
      by Accepted (Err why) t f = absurd (never (sym (ap (λ (x : Resolution). x.settled) (layout-at Accepted (Err why) t f)) ∙ e))
      by (Err why) w t f = absurd (never (sym (ap (λ (x : Resolution). x.settled) (layout-at (Err why) w t f)) ∙ e))

  module _ (old : out.Lent) (r : DkLayout) (new : out.Lent) (answer : r ≡ layout_told (build_of (input_of g typed) (room_of old)))
      (built : Builds (input_of g typed) old (build_of (input_of g typed) (room_of old)) new) (k : ℕ) (settled : settled_of (input_of g typed) ≡ Ok k) where
    passes_of_lem : (build_of (input_of g typed) (room_of old)).passes ≡ passes_of (input_of g typed)
    unfolding build_of
    passes_of_lem = refl

    abbrev pub checked-of : Checked (table g) (listed g) g.fill
    checked-of = (accepts k settled).checked

    abbrev pub shown_of : Shown g (table g)
    shown_of = shown g typed checked-of.table

    abbrev ck : Checked (table g) (listed g) g.fill
    ck = checked-of

    abbrev is : Shown g (table g)
    is = shown_of

    last : SettledSo g (table g) is ck (lent_so old) k (resolution_of (table g) (listed g) g.limit).passes
    last = (passes-meet g (table g) is ck (lent_so old)).1 k (accepts k settled).settled

    same : (resolution_of (table g) (listed g) g.limit).passes ≡ (build_of (input_of g typed) (room_of old)).passes
    same = sym (accepts k settled).passes ∙ sym passes_of_lem

    -- the row of the last pass is walked to its end
    pub goes-all : Goes g (table g) is ck (min (build_of (input_of g typed) (room_of old)).passes g.rows - 1) (nodes g)
    goes-all =
        subst (λ (n : ℕ). Goes g (table g) is ck (min n g.rows - 1) (nodes g)) same (λ j h. ((last.past j h).now, (last.past j h).seen))

    abbrev row : ℕ
    row = row_here g typed is ck old (build_of (input_of g typed) (room_of old)) new built

    -- So what is left to say is the build of that row.
    pub row-meets : Built g (lent_so old) row k (passes_of (input_of g typed)) (outcome g typed old r new answer built)
        → BuildSays g (lent_so old) (outcome g typed old r new answer built)
    row-meets b =
        let n = passes_of (input_of g typed) in
        accepted-meets g typed old r new answer built k settled row
        (subst (λ (x : ℕ). Reads g n (min x g.rows - 1)) (sym passes_of_lem)
        (reads-row g (table g) is ck n (subst (λ (x : ℕ). 1 ≤ x) (sym (accepts k settled).passes) last.counted)))
        b

    -- A build that is refused at a node, 9 to 13.
    pub node-meets : (why : Refusal) → (build_of (input_of g typed) (room_of old)).build ≡ Err why
        → FirstRefused (call g typed is ck old (build_of (input_of g typed) (room_of old)) new built) why
        → BuildSays g (lent_so old) (outcome g typed old r new answer built)
    node-meets why e f =
        let n = passes_of (input_of g typed) in
        row-meets (subst (Built g (lent_so old) row k n) (sym (refused-outcome g typed old r new answer built why e))
        (build-refused g typed is ck old (build_of (input_of g typed) (room_of old)) new built goes-all k settled why f n))
