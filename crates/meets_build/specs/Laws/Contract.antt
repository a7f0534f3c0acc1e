-- `dk_build` by its contract, up to refusal 8: where the layout is refused, the answer that the contract gives and everything lent are an outcome that the
-- sentences say; where it is accepted, what is left to show is the build over the row of the last pass (`Built`).
use Rattle.std.specs.Prelude.{◌≡◌, Bool, true, false, ℕ, ◌-◌, ◌≤◌, min, replicate, Err, Ok}
use Rattle.std.proofs.Math.Path.{refl}
use Rattle.std.proofs.Common.{sym, ap, subst, ◌∙◌}
use Rattle.prelude.specs.Refusals.{number_of, place_of}
use Rattle.prelude.specs.declared.Refusal.{Refusal}
use Rattle.output.specs.Output as out
use Rattle.output.specs.Output.{Input, room_of, settled_build, settled_of, passes_of, build_of, visits_of, left_by, Builds}
use Rattle.output.specs.declared.Output.{Output}
use Rattle.c_tables.specs.Tables.{choices_by}
use Rattle.c_answers.specs.Told.{layout_told, build_told}
use Rattle.c_answers.specs.declared.DkLayout.{DkLayout}
use Rattle.says.specs.Build as says
use Rattle.says.specs.Build.{Given, Outcome, Reads, Built, BuildSays}
use Rattle.meets_build.specs.Laws.Shown.{listed}
use Rattle.meets_sentences.specs.Typed.{Typed}
use Rattle.meets_build.specs.Laws.Table.{table}
use Rattle.meets_build.specs.Laws.Checks.{answered, layout-meets}

-- what is lent, in the sentences
abbrev pub lent_so : out.Lent → says.Lent
lent_so l = record { image = l.image; addresses = l.addresses; offsets = l.offsets; sizes = l.sizes }

module _ (g : Given) (typed : Typed g) where
  -- what the call is given, in the definitions
  abbrev pub input_of : Input
  input_of = out.input (table g) (listed g) (choices_by g.limit g.fill g.closed)

  module _ (old : out.Lent) (r : DkLayout) (new : out.Lent) (answer : r ≡ layout_told (build_of input_of (room_of old)))
      (built : Builds input_of old (build_of input_of (room_of old)) new) where
    -- the outcome of the call
    abbrev pub outcome : Outcome
    outcome = record { answer = r; lent = lent_so new }

    build-of : (build_of input_of (room_of old)).build ≡ settled_build input_of (room_of old) (passes_of input_of) (settled_of input_of)
    unfolding build_of
    build-of = refl

    passes_of_lem : (build_of input_of (room_of old)).passes ≡ passes_of input_of
    unfolding build_of
    passes_of_lem = refl

    told-refused : (o : Output) (why : Refusal) (n : ℕ) → o.build ≡ Err why → o.passes ≡ n → layout_told o ≡ (answered g typed (lent_so old) why n).answer
    told-refused o why n e f = rw (e, f)

    -- A build that is refused answers so and leaves what is lent.
    pub refused-outcome : (why : Refusal) → (build_of input_of (room_of old)).build ≡ Err why → outcome ≡ answered g typed (lent_so old) why (passes_of input_of)
    refused-outcome why e =
        let a : r ≡ (answered g typed (lent_so old) why (passes_of input_of)).answer =
        answer ∙ told-refused (build_of input_of (room_of old)) why (passes_of input_of) e passes_of_lem in
        let l : new ≡ old = built.left
        ∙ ap (left_by (table g) (visits_of input_of (build_of input_of (room_of old)).passes) g.values old) e in
        ap (λ (x : DkLayout). record { answer = x; lent = lent_so new }) a
        ∙ ap (λ (x : out.Lent). record { answer = (answered g typed (lent_so old) why (passes_of input_of)).answer; lent = lent_so x }) l

    -- Refusals 1 to 8.
    pub refused-meets : (why : Refusal) → settled_of input_of ≡ Err why → BuildSays g (lent_so old) outcome
    refused-meets why e =
        subst (BuildSays g (lent_so old)) (sym (refused-outcome why (build-of ∙ ap (settled_build input_of (room_of old) (passes_of input_of)) e)))
        ((layout-meets g typed (lent_so old)).0 why e)

    -- And what is left of an accepted layout.
    pub accepted-meets : (k : ℕ) → settled_of input_of ≡ Ok k → (row : ℕ) → Reads g (passes_of input_of) row
        → Built g (lent_so old) row k (passes_of input_of) outcome
        → BuildSays g (lent_so old) outcome
    accepted-meets k e row reads b = (layout-meets g typed (lent_so old)).1 k e row reads outcome b
