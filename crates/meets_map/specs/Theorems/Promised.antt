-- Meets and decides together: the outcome of a call of `dk_map` is the one outcome that the sentences leave, for everything that it can be given and lent.
use Rattle.std.specs.Prelude.{◌≡◌, refl, ◌↔◌, ℕ, length, Result, Err, Ok}
use Rattle.std.proofs.Common.{sym, subst}
use Rattle.prelude.specs.Told.{told_verdict}
use Rattle.prelude.specs.declared.Refusal.{Refusal}
use Rattle.resolver.specs.Passes.{row_of_pass}
use Rattle.build_plan.specs.Placing.{Placed, holds, stops, placed_all, walked_all}
use Rattle.output.specs.Output.{Input, closed_of, visits_of, passes_of, settled_of}
use Rattle.build_map.specs.Map.{traced_by, settled_reach, map_of, left_by, placed_told, settled_told}
use Rattle.c_answers.specs.Maps.{map_told}
use Rattle.c_answers.specs.declared.DkMap.{DkMap}
use Rattle.says.specs.Build.{Given, nodes}
use Rattle.meets_sentences.specs.Typed.{Typed}
use Rattle.meets_build.specs.Laws.Contract.{input_of}
use Rattle.meets_build.specs.Laws.Shown.{listed, walked}
use Rattle.meets_build.specs.Laws.Table.{table}
use Rattle.says.specs.Map.{Lent, Outcome, MapSays}
use Rattle.meets_map.specs.Places.{Places}
use Rattle.meets_map.specs.Laws.Shown.{lent_of}
use Rattle.meets_map.specs.Theorems.Decides.{map-decides}
use Rattle.meets_map.specs.Theorems.Meets.{Contract, lent_so, map-meets}

-- ---- there is one for everything that can be given and lent

placed-told : (walked : ℕ) (q : Placed) → told_verdict (traced_by walked q).verdict ≡ placed_told q
placed-told n (holds s) = refl
placed-told n (stops why) = refl

settled-told : (b : Input) (s : Result ℕ Refusal)
    → told_verdict (settled_reach (closed_of b) (visits_of b (passes_of b)) (length b.lists.kinds) s).verdict ≡ settled_told b s
settled-told b (Err why) = refl
settled-told b (Ok k) =
    placed-told (walked_all (closed_of b) (visits_of b (passes_of b))) (placed_all (closed_of b) (visits_of b (passes_of b)))

module _ (g : Given) (typed : Typed g) (old : Lent) (places : Places old) where
  -- Whatever the sentences say of a call is its outcome.
  pub map-promised : (r : DkMap) (new : Lent) → Contract g old r new → (o : Outcome) → MapSays g old o → o ≡ record { answer = r; lent = new }
  map-promised r new told o says = map-decides g old o (record { answer = r; lent = new }) says (map-meets g typed old places r new told)

  abbrev b : Input
  b = input_of g typed

  -- the outcome by the definitions
  abbrev pub outcome_of : Outcome
  outcome_of =
      record {
        answer = map_told (map_of b);
        lent = lent_so (left_by (walked g (table g)) (row_of_pass (listed g) (map_of b).passes) (map_of b).nodes (lent_of old));
      }

  figures-are : told_verdict (map_of b).verdict ≡ settled_told b (settled_of b)
  unfolding map_of
  figures-are = settled-told b (settled_of b)

  pub has-outcome : Contract g old outcome_of.answer outcome_of.lent
  has-outcome = record { answer = refl; maps = record { answer = refl; told = figures-are; left = refl } }

  -- What the sentences say is so, and nothing else: every call has an outcome, and one.
  pub map-exactly : (o : Outcome) → MapSays g old o ↔ (o ≡ outcome_of)
  map-exactly o = (
    map-promised outcome_of.answer outcome_of.lent has-outcome o,
    λ e. subst (MapSays g old) (sym e) (map-meets g typed old places outcome_of.answer outcome_of.lent has-outcome),
  )

  pub every-call-has-an-outcome : (o : Outcome) × MapSays g old o
  every-call-has-an-outcome = (outcome_of, (map-exactly outcome_of).1 refl)
