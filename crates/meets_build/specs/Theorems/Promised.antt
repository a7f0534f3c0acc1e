-- Meets and decides together: the outcome of a call of `dk_build` is the one outcome that the sentences leave, for everything that it can be given and lent.
use Rattle.std.specs.Prelude.{◌≡◌, refl, Bool, true, false, ◌↔◌, ℕ, ◌*◌, ltb, Result, Err, Ok}
use Rattle.std.proofs.Common.{sym, ap, subst, ◌∙◌}
use Rattle.prelude.specs.Pick.{pick}
use Rattle.prelude.specs.Told.{refuses, gives}
use Rattle.prelude.specs.declared.Place.TheVariants.{One}
use Rattle.prelude.specs.declared.Refusal.TheVariants.{TooShort}
use Rattle.prelude.specs.declared.Refusal.{Refusal}
use Rattle.output.specs.Output as out
use Rattle.output.specs.Output.{Input, Room, room_of, room_for, placed_build, settled_build, settled_of, passes_of, closed_of, visits_of, build_of, left_by, Builds}
use Rattle.output.specs.Output.{told_build, room_told, placed_told, settled_told}
use Rattle.output.specs.Built.{done_with}
use Rattle.build_plan.specs.Placing.{Placed, holds, stops, placed_all}
use Rattle.c_answers.specs.Told.{layout_told}
use Rattle.c_answers.specs.declared.DkLayout.{DkLayout}
use Rattle.says.specs.Build.{Given, Lent, Outcome, BuildSays}
use Rattle.meets_sentences.specs.Theorems.Decides.{build-decides}
use Rattle.meets_sentences.specs.Typed.{Typed}
use Rattle.meets_build.specs.Laws.Contract.{lent_so, input_of}
use Rattle.meets_build.specs.Theorems.Meets.{lent_of, Contract, build-meets}

-- Whatever the sentences say of a call is its outcome.
pub build-promised : (g : Given) → Typed g → (old : Lent) (r : DkLayout) (new : Lent) → Contract g old r new
    → (o : Outcome) → BuildSays g old o → o ≡ record { answer = r; lent = new }
build-promised g typed old r new told o says = build-decides g old o (record { answer = r; lent = new }) says (build-meets g typed old r new told)

-- ---- there is one for everything that can be given and lent

room-told : (room : Room) (k bits spans : ℕ) → told_build (room_for room k bits spans) ≡ room_told room k bits spans
room-told room k bits spans = by (ltb (8 * room.image) bits) (ltb room.spans spans)
  where
    by : (a b : Bool)
        → told_build (pick a (Err (TooShort 0)) (pick b (Err (TooShort 1)) (done_with k bits spans)))
        ≡ pick a (refuses 14 (One 0)) (pick b (refuses 14 (One 1)) (gives (record { k = k; length = bits; spans = spans })))
    by true b = refl
    by false true = refl
    by false false = refl

placed-told : (room : Room) (k bits spans : ℕ) (p : Placed) → told_build (placed_build room k bits spans p) ≡ placed_told room k bits spans p
placed-told room k bits spans (stops why) = refl
placed-told room k bits spans (holds s) = room-told room k bits spans

settled-told : (b : Input) (room : Room) (s : Result ℕ Refusal) → told_build (settled_build b room (passes_of b) s) ≡ settled_told b room s
settled-told b room (Err why) = refl
settled-told b room (Ok k) = placed-told room k _ _ (placed_all (closed_of b) (visits_of b (passes_of b)))

module _ (g : Given) (typed : Typed g) (old : Lent) where
  -- the outcome by the definitions
  abbrev pub outcome_of : Outcome
  outcome_of =
      record {
        answer = layout_told (build_of (input_of g typed) (room_of (lent_of old)));
        lent =
            lent_so
            (left_by (input_of g typed).banks (visits_of (input_of g typed) (build_of (input_of g typed) (room_of (lent_of old))).passes) g.values (lent_of old)
            (build_of (input_of g typed) (room_of (lent_of old))).build);
      }

  figures-are : told_build (build_of (input_of g typed) (room_of (lent_of old))).build
      ≡ settled_told (input_of g typed) (room_of (lent_of old)) (settled_of (input_of g typed))
  unfolding build_of
  figures-are = settled-told (input_of g typed) (room_of (lent_of old)) (settled_of (input_of g typed))

  pub has-outcome : Contract g old outcome_of.answer outcome_of.lent
  has-outcome = record { answer = refl; built = record { answer = refl; figures = figures-are; left = refl } }

  -- What the sentences say is so, and nothing else: every call has an outcome, and one.
  pub build-exactly : (o : Outcome) → BuildSays g old o ↔ (o ≡ outcome_of)
  build-exactly o = (
    build-promised g typed old outcome_of.answer outcome_of.lent has-outcome o,
    λ e. subst (BuildSays g old) (sym e) (build-meets g typed old outcome_of.answer outcome_of.lent has-outcome),
  )

  pub every-call-has-an-outcome : (o : Outcome) × BuildSays g old o
  every-call-has-an-outcome = (outcome_of, (build-exactly outcome_of).1 refl)
