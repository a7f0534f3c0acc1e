-- The build's figures are those of its answer.
use Rattle.std.specs.Prelude.{ℕ, ◌*◌, ◌≡◌, refl, Bool, true, false, ltb, length, Result, Ok, Err}
use Rattle.prelude.specs.Pick.{pick}
use Rattle.prelude.specs.declared.Refusal.TheVariants.{TooShort}
use Rattle.prelude.specs.declared.Refusal.{Refusal}
use Rattle.build_visits.specs.Items.{length_of, items_of}
use Rattle.output.specs.Output.{Input, Room, room_for, placed_build, settled_build, settled_of, passes_of, visits_of, build_of}
use Rattle.output.specs.Output.{closed_of, fill_of, told_build, room_told, placed_told, settled_told}
use Rattle.output.specs.Built.{done_with}
use Rattle.build_plan.specs.Placing.{Placed, holds, stops, placed_all}
use Rattle.build_visits.specs.Spans.{spans_of}

room-told : (room : Room) (k bits spans : ℕ) → told_build (room_for room k bits spans) ≡ room_told room k bits spans
room-told room k bits spans = go (ltb (8 * room.image) bits) (ltb room.spans spans)
  where
    go : (x y : Bool)
        → told_build (pick x (Err (TooShort 0)) (pick y (Err (TooShort 1)) (done_with k bits spans)))
        ≡ pick x (told_build (Err (TooShort 0))) (pick y (told_build (Err (TooShort 1))) (told_build (done_with k bits spans)))
    go true y = refl
    go false true = refl
    go false false = refl

placed-told : (room : Room) (k bits spans : ℕ) (p : Placed) → told_build (placed_build room k bits spans p) ≡ placed_told room k bits spans p
placed-told room k bits spans (holds stored) = room-told room k bits spans
placed-told room k bits spans (stops why) = refl

settled-told : (b : Input) (room : Room) (s : Result ℕ Refusal) → told_build (settled_build b room (passes_of b) s) ≡ settled_told b room s
settled-told b room (Ok k) =
    let vs = visits_of b (passes_of b) in
    placed-told room k (length_of (fill_of b) (items_of vs)) (length (spans_of vs)) (placed_all (closed_of b) vs)
settled-told b room (Err why) = refl

pub build-told : (b : Input) (room : Room) → told_build (build_of b room).build ≡ settled_told b room (settled_of b)
unfolding build_of
build-told b room = settled-told b room (settled_of b)
