-- Theorems about what OffersMade defines.
use Rattle.std.specs.Prelude.{Result, ◌≡◌, refl, Bool, true, false, ◌⊎◌, ℕ, zero, suc, ◌*◌, ◌≤◌, ltb, length, Err, Ok}
use Rattle.std.proofs.Math.Path.{sym}
use Rattle.std.proofs.Common.{ap, ◌∙◌, inl, inr, arith}
use Rattle.prelude.specs.Laws.Bools.{unlike}
use Rattle.prelude.specs.Pick.{pick}
use Rattle.prelude.specs.declared.Refusal.{Refusal}
use Rattle.prelude.specs.declared.Refusal.TheVariants.{TooShort}
use Rattle.prelude.specs.Verdict.{Verdict, Accepted}
use Rattle.overlap_checker.specs.State.{State, empty_state}
use Rattle.build_visits.specs.Laws.VisitLaws.{visits-none, visits-next}
use Rattle.build_visits.specs.Items.{items_of, length_of}
use Rattle.build_visits.specs.Spans.{spans_of}
use Rattle.build_plan.specs.Placing.{verdict_on}
use Rattle.build_plan.specs.Placing.{Placed, holds, stops, placed_if, placed_next, placed_from, placed_all}
use Rattle.build_plan.specs.Laws.PlacingLaws.{placed-last}
use Rattle.output.specs.declared.Built.{Built}
use Rattle.output.specs.Output.{room_of, placed_build, settled_build, settled_of, fill_of}
use Rattle.output.specs.Calls.{Call, nodes_in, closed_in, program_in, row_in, visit_in, visits_in, visits_before}
use Rattle.output.proofs.CallsLaws.{build-is}
use Rattle.output.specs.OffersMade.{FirstRefused}
use Rattle.output.specs.Built.{done_with}

module _ (c : Call) where
  stopped : (v : Verdict) (s : State) (why : Refusal) → placed_if v s ≡ stops why → v ≡ Err why
  stopped Accepted s why e = unlike cc
  stopped (Err other) s why e = cc

  none-stops : (why : Refusal) → placed_all (closed_in c) (visits_before c 0) ≡ stops why → ⊥
  unfolding placed_from
  none-stops why e =
      let q : holds empty_state ≡ stops why = sym (ap (placed_all (closed_in c)) (visits-none (program_in c) (row_in c))) ∙ e in
      unlike cc

  first-stop : (m : ℕ) → m ≤ nodes_in c → (why : Refusal) → placed_all (closed_in c) (visits_before c m) ≡ stops why → FirstRefused c why
  first-stop zero h why e = absurd (none-stops why e)
  first-stop (suc m) h why e =
      go (placed_all (closed_in c) (visits_before c m)) refl
      (sym (ap (placed_all (closed_in c)) (visits-next (program_in c) (row_in c) m)
      ∙ placed-last (closed_in c) (holds empty_state) (visits_before c m) (visit_in c m)) ∙ e)
      (first-stop m (omega arith) why)
    where
      go : (q : Placed) → placed_all (closed_in c) (visits_before c m) ≡ q → placed_next (closed_in c) (visit_in c m) q ≡ stops why
          → (placed_all (closed_in c) (visits_before c m) ≡ stops why → FirstRefused c why) → FirstRefused c why
      go (stops other) is f earlier = earlier (is ∙ f)
      go (holds s) is f earlier =
          record { n = m; listed = h; stored = s; before = is; verdict = stopped (verdict_on (closed_in c) s (visit_in c m)) _ why f }

  refused-same : {a b : Refusal} → ◌≡◌ {A = Result Built Refusal} (Err a) (Err b) → b ≡ a
  refused-same e = cc

  done_refused : {k bits spans : ℕ} {why : Refusal} → done_with k bits spans ≡ Err why → ⊥
  done_refused e = unlike cc

  abbrev bits : ℕ
  bits = length_of (fill_of c.given) (items_of (visits_in c))

  abbrev count : ℕ
  count = length (spans_of (visits_in c))

  abbrev ForRoom : Refusal → Type 0
  ForRoom why = (stored : State) × (placed_all (closed_in c) (visits_in c) ≡ holds stored) × ((why ≡ TooShort 0) ⊎ (why ≡ TooShort 1))

  -- A build whose passes settled is refused at the first node that is, or else, all nodes placed, for room.
  pub refused-where : (k : ℕ) → settled_of c.given ≡ Ok k → (why : Refusal) → c.answer.build ≡ Err why
      → FirstRefused c why ⊎ ForRoom why
  refused-where k settled why e =
      go (placed_all (closed_in c) (visits_in c)) refl
      (sym (build-is c ∙ ap (settled_build c.given (room_of c.old) c.answer.passes) settled) ∙ e)
    where
      short : (a b : Bool) → pick a (Err (TooShort 0)) (pick b (Err (TooShort 1)) (done_with k bits count)) ≡ Err why
          → (why ≡ TooShort 0) ⊎ (why ≡ TooShort 1)
      short true b f = inl (refused-same f)
      short false true f = inr (refused-same f)
      short false false f = absurd (done_refused f)

      go : (q : Placed) → placed_all (closed_in c) (visits_in c) ≡ q
          → placed_build (room_of c.old) k bits count q ≡ Err why
          → FirstRefused c why ⊎ ForRoom why
      go (stops other) is f = inl (first-stop (nodes_in c) (omega arith) why (is ∙ ap stops (sym (refused-same f))))
      go (holds s) is f = inr (s, is, short (ltb (8 * (room_of c.old).image) bits) (ltb (room_of c.old).spans count) f)
