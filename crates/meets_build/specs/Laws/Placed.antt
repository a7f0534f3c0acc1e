-- A build that places every node: refusal 14 where a lent output is too short, otherwise accepted, with what it leaves.
use Rattle.std.specs.Prelude.{◌≡◌, Bool, true, false, List, ◌⊎◌, ℕ, ◌-◌, ◌*◌, ◌≤◌, ◌<◌, min, ltb, length, Ok, Err}
use Rattle.std.proofs.Math.Path.{refl, ap}
use Rattle.std.proofs.Common.{sym, subst, ◌∙◌, inl, inr, ⊎_elim, arith, ltb-true, ltb-false}
use Rattle.prelude.specs.Laws.Bools.{either}
use Rattle.prelude.specs.Laws.Pick.{pick_true, pick-false}
use Rattle.prelude.specs.declared.Refusal.{Refusal}
use Rattle.prelude.specs.declared.Refusal.TheVariants.{TooShort}
use Rattle.iter.specs.declared.Lost.{Lost}
use Rattle.output.specs.Calls.{Call, closed_in, visits_in, program_in, row_in}
use Rattle.output.proofs.CallsLaws.{padding-is}
use Rattle.output.proofs.OffersMade.{refused-where}
use Rattle.output.specs.Output as out
use Rattle.output.specs.Output.{room_of, room_for, placed_build, padding_by, settled_build, settled_of, passes_of, build_of, Builds}
use Rattle.output.specs.declared.Output.{Output}
use Rattle.output.specs.Built.{done_with}
use Rattle.overlap_checker.specs.State.{State}
use Rattle.build_plan.specs.Placing.{Placed, holds, stops, placed_all}
use Rattle.build_plan.specs.Laws.PlacingLaws.{stops-holds}
use Rattle.build_plan.specs.Plan.{paddings_of}
use Rattle.resolver.specs.Layout.{Checked}
use Rattle.c_answers.specs.Told.{layout_told}
use Rattle.c_answers.specs.declared.DkLayout.{DkLayout}
use Rattle.build_visits.specs.Spans.{spans_of}
use Rattle.says.specs.Words.{Tries, refused, passed}
use Rattle.says.specs.Build as says
use Rattle.says.specs.Build.{Given, nodes, Outcome, Reads, Offer, Why, Refuses, Spans, Accepts, Built, BuildSays}
use Rattle.meets_build.specs.Laws.Shown.{Shown, listed}
use Rattle.meets_sentences.specs.Typed.{Typed}
use Rattle.meets_build.specs.Laws.Table.{table}
use Rattle.meets_build.specs.Laws.Checks.{answered}
use Rattle.meets_build.specs.Laws.Contract.{lent_so, input_of, outcome, refused-outcome}
use Rattle.meets_build.specs.Laws.AtNode.{call, row_here}
use Rattle.meets_build.specs.Laws.Offers.{padding-meets, spans-meet}
use Rattle.meets_build.specs.Laws.Length.{image_bits, length_meets}
use Rattle.meets_build.specs.Laws.Refused.{none-refused}
use Rattle.meets_build.specs.Laws.Left.{left_meets}
use Rattle.meets_build.specs.Laws.Whole.{checked-of, shown_of, goes-all, row-meets, node-meets}

shortest : (a b c n : ℕ) → min a (min b c) < n → (a < n) ⊎ ((b < n) ⊎ (c < n))
shortest a b c n h =
    either (ltb a n) (λ t. inl (ltb-true a n t)) (λ t.
    let x = ltb-false a n t in
    either (ltb b n) (λ u. inr (inl (ltb-true b n u))) (λ u. let y = ltb-false b n u in inr (inr (omega arith))))

long-enough : (a b c n : ℕ) → n ≤ min a (min b c) → (a < n) ⊎ ((b < n) ⊎ (c < n)) → ⊥
long-enough a b c n h s = ⊎_elim (λ x. omega arith) (λ x. ⊎_elim (λ y. omega arith) (λ y. omega arith) x) s

module _ (g : Given) where
  offered-listed : {r i x m : ℕ} → Offer g r i x m → i < nodes g
  offered-listed (says.offer h k l s f n) = h

  pub refuses-listed : {r i : ℕ} → Refuses g r i → i < nodes g
  refuses-listed {r} {i} t = by t.3
    where
      by : {number place second : ℕ} → Why g r i number place second → i < nodes g
      by (says.bank-0 p h c) = p.0
      by (says.past-size p s x m h) = p.0
      by (says.no_output h w x n) = h
      by (says.overlaps o v) = offered-listed o
      by (says.full o s f) = offered-listed o

  module _ (typed : Typed g) (old : out.Lent) (r : DkLayout) (new : out.Lent) (answer : r ≡ layout_told (build_of (input_of g typed) (room_of old)))
      (built : Builds (input_of g typed) old (build_of (input_of g typed) (room_of old)) new) (k : ℕ) (settled : settled_of (input_of g typed) ≡ Ok k) where
    abbrev given : Output
    given = build_of (input_of g typed) (room_of old)

    abbrev ck : Checked (table g) (listed g) g.fill
    ck = checked-of g typed old r new answer built k settled

    abbrev is : Shown g (table g)
    is = shown_of g typed old r new answer built k settled

    abbrev c : Call
    c = call g typed is ck old given new built

    abbrev row : ℕ
    row = row_here g typed is ck old given new built

    abbrev n : ℕ
    n = passes_of (input_of g typed)

    abbrev bits : ℕ
    bits = image_bits g is ck row (goes-all g typed old r new answer built k settled)

    abbrev count : ℕ
    count = length (spans_of (visits_in c))

    passes_of_lem : given.passes ≡ n
    unfolding build_of
    passes_of_lem = refl

    told-done : (o : Output) (b m : ℕ) (sums : List Lost) → o.build ≡ done_with k b m → o.padding ≡ sums → layout_told o
        ≡ record { refusal = 0; place = 0; second = 0; passes = o.passes; k = k; length = b; spans = m; padding = sums }
    told-done o b m sums e f = rw (e, f)

    -- accepted: the answer, and what is left
    done-built : given.build ≡ done_with k bits count → Accepts g (lent_so old) row k n bits count (outcome g typed old r new answer built)
    done-built e =
        let sums = paddings_of (program_in c) (row_in c) in
        let padding : given.padding ≡ sums = padding-is c ∙ ap (padding_by sums) e in
        let told = answer ∙ told-done given bits count sums e padding in
        let left = left_meets g typed is ck old given new built (goes-all g typed old r new answer built k settled) k bits count e in
        subst (λ (x : DkLayout). Accepts g (lent_so old) row k n bits count (record { answer = x; lent = lent_so new })) (sym told)
        (subst
        (λ (p : ℕ). Accepts g (lent_so old) row k p bits count
        (record {
          answer = record { refusal = 0; place = 0; second = 0; passes = given.passes; k = k; length = bits; spans = count; padding = sums };
          lent = lent_so new;
        }))
        passes_of_lem
        (says.accepts (padding-meets g (table g) is ck row (goes-all g typed old r new answer built k settled)) left))

    module _ (s : State) (placed : placed_all (closed_in c) (visits_in c) ≡ holds s) where
      build-is : given.build ≡ room_for (room_of old) k bits count
      unfolding build_of
      build-is =
          ap (settled_build (input_of g typed) (room_of old) (passes_of (input_of g typed))) settled ∙ ap (placed_build (room_of old) k bits count) placed

      abbrev AfterImage : Outcome → Type 0
      AfterImage =
          Tries (λ (_ : Unit {0}). (length old.addresses < count) ⊎ ((length old.offsets < count) ⊎ (length old.sizes < count)))
          (λ _. says.refusal g (lent_so old) 14 1 0 n)
          (Accepts g (lent_so old) row k n bits count)

      abbrev After : Outcome → Type 0
      After = Tries (λ (_ : Unit {0}). 8 * length old.image < bits) (λ _. says.refusal g (lent_so old) 14 0 0 n) AfterImage

      abbrev image : Bool
      image = ltb (8 * length old.image) bits

      abbrev spans : Bool
      spans = ltb (room_of old).spans count

      -- "14 comes last: image, then spans."
      after-image : image ≡ false → AfterImage (outcome g typed old r new answer built)
      after-image t =
          either spans
          (λ u.
          subst AfterImage (sym (refused-outcome g typed old r new answer built (TooShort 1) (build-is ∙ pick-false _ _ t ∙ pick_true _ _ u)))
          (refused tt (shortest (length old.addresses) (length old.offsets) (length old.sizes) count (ltb-true (room_of old).spans count u))))
          (λ u.
          passed (λ w h. long-enough (length old.addresses) (length old.offsets) (length old.sizes) count (ltb-false (room_of old).spans count u) h)
          (done-built (build-is ∙ pick-false _ _ t ∙ pick-false _ _ u)))

      after : After (outcome g typed old r new answer built)
      after =
          either image
          (λ t.
          subst After (sym (refused-outcome g typed old r new answer built (TooShort 0) (build-is ∙ pick_true _ _ t)))
          (refused tt (ltb-true (8 * length old.image) bits t)))
          (λ t. passed (λ u h. let q = ltb-false (8 * length old.image) bits t in omega arith) (after-image t))

      -- Every node placed: 14, or accepted.
      pub placed-meets : BuildSays g (lent_so old) (outcome g typed old r new answer built)
      placed-meets =
          row-meets g typed old r new answer built k settled
          (says.placed
          (λ i z.
          none-refused g typed is ck old given new built (goes-all g typed old r new answer built k settled) k settled (nodes g) (omega arith) s placed i
          (refuses-listed z) z)
          (length_meets g is ck row (goes-all g typed old r new answer built k settled))
          (spans-meet g (table g) is ck row (goes-all g typed old r new answer built k settled) (nodes g))
          after)

    pub stopped-build : (why : Refusal) → placed_all (closed_in c) (visits_in c) ≡ stops why → given.build ≡ Err why
    unfolding build_of
    stopped-build why e =
        ap (settled_build (input_of g typed) (room_of old) (passes_of (input_of g typed))) settled ∙ ap (placed_build (room_of old) k bits count) e

    -- A layout whose passes settled.
    pub settled-meets : BuildSays g (lent_so old) (outcome g typed old r new answer built)
    settled-meets = by (placed_all (closed_in c) (visits_in c)) refl
      where
        by : (p : Placed) → placed_all (closed_in c) (visits_in c) ≡ p → BuildSays g (lent_so old) (outcome g typed old r new answer built)
        by (holds s) e = placed-meets s e
        by (stops why) e =
            let refusal = stopped-build why e in
            ⊎_elim (λ f. node-meets g typed old r new answer built k settled why refusal f) (λ f. absurd (stops-holds (sym e ∙ f.1)))
            (refused-where c k settled why refusal)
