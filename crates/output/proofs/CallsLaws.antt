-- Laws that Theorems/Calls rests on.
use Rattle.std.specs.Prelude.{◌≡◌, Bool, true, false, List, ℕ, ◌*◌, ◌≤◌, ltb, length, Result, Err, Ok}
use Rattle.std.proofs.Math.Path.{refl, ap, subst}
use Rattle.std.proofs.Common.{sym, ◌∙◌, ltb-false}
use Rattle.prelude.specs.Verdict.{Accepted as Yes}
use Rattle.prelude.specs.Laws.Bools.{unlike}
use Rattle.prelude.specs.Pick.{pick}
use Rattle.prelude.specs.declared.Refusal.{Refusal}
use Rattle.prelude.specs.declared.Refusal.TheVariants.{TooShort}
use Rattle.bankdef.specs.Check.{check_of}
use Rattle.resolver.proofs.LastPass.{accepted-checked}
use Rattle.resolver.specs.Passes.{row_of_pass}
use Rattle.build_visits.specs.Items.{items_of, length_of}
use Rattle.build_plan.specs.Placing.{Placed, holds, stops, placed_all}
use Rattle.build_visits.specs.Spans.{spans_of}
use Rattle.output.specs.Output.{Input, closed_of, Room, room_of, room_for, placed_build, build_row, settled_build, build_of}
use Rattle.build_plan.specs.Plan.{paddings_of}
use Rattle.output.specs.Output.{padding_by, visits_of, fill_of, settled_of}
use Rattle.build_visits.specs.declared.Visit.{Visit}
use Rattle.output.specs.declared.Output.{Output}
use Rattle.output.specs.Laws.Calls.{passes-are}
use Rattle.output.specs.Calls.{Accepted, Call, Fine, program_in, row_in}
use Rattle.output.specs.declared.Built.{Built}
use Rattle.output.specs.Built.{done_with, length_done, spans_done}

-- ---- what the contract says of it

pub refused-done : {why : Refusal} {k bits spans : ℕ} → Err why ≡ done_with k bits spans → ⊥
refused-done e = unlike cc

room-done : (room : Room) (k bits spans k' bits' spans' : ℕ) → room_for room k bits spans ≡ done_with k' bits' spans'
    → (bits' ≡ bits) × (spans' ≡ spans) × (bits ≤ 8 * room.image) × (spans ≤ room.spans)
room-done room k bits spans k' bits' spans' e = go (ltb (8 * room.image) bits) (ltb room.spans spans) refl refl e
  where
    go : (a b : Bool) → ltb (8 * room.image) bits ≡ a → ltb room.spans spans ≡ b
        → pick a (Err (TooShort 0)) (pick b (Err (TooShort 1)) (done_with k bits spans)) ≡ done_with k' bits' spans'
        → (bits' ≡ bits) × (spans' ≡ spans) × (bits ≤ 8 * room.image) × (spans ≤ room.spans)
    go true b ea eb q = absurd (refused-done q)
    go false true ea eb q = absurd (refused-done q)
    go false false ea eb q = (sym (ap length_done q), sym (ap spans_done q), ltb-false (8 * room.image) bits ea, ltb-false room.spans spans eb)

row_fine : (closed : Bool) (vs : List Visit) (fill : ℕ) (room : Room) (k k' bits spans : ℕ) → build_row closed vs fill room k ≡ done_with k' bits spans
    → Fine closed vs fill room bits spans
row_fine closed vs fill room k k' bits spans e = go (placed_all closed vs) refl e
  where
    go : (q : Placed) → placed_all closed vs ≡ q → placed_build room k (length_of fill (items_of vs)) (length (spans_of vs)) q ≡ done_with k' bits spans
        → Fine closed vs fill room bits spans
    go (stops why) h f = absurd (refused-done f)
    go (holds s) h f =
        let (b, n, wide, long) = room-done room k (length_of fill (items_of vs)) (length (spans_of vs)) k' bits spans f in
        record { state = s; placed = h; reach = b; count = n; wide = rw b wide; long = rw n long }

module _ (c : Call) where
  pub build-is : c.answer.build ≡ settled_build c.given (room_of c.old) c.answer.passes (settled_of c.given)
  unfolding build_of
  build-is =
      ap (λ (o : Output). o.build) c.meets.answer
      ∙ ap (λ (n : ℕ). settled_build c.given (room_of c.old) n (settled_of c.given)) (sym (passes-are c))

  pub padding-is : c.answer.padding ≡ padding_by (paddings_of (program_in c) (row_in c)) c.answer.build
  unfolding build_of
  padding-is =
      subst (λ (o : Output). o.padding ≡ padding_by (paddings_of (program_in c) (row_of_pass c.given.lists o.passes)) o.build)
      (sym c.meets.answer) refl

pub settled-fine : (b : Input) (room : Room) (passes : ℕ) (s : Result ℕ Refusal) (k bits spans : ℕ) → settled_build b room passes s ≡ done_with k bits spans
    → Fine (closed_of b) (visits_of b passes) (fill_of b) room bits spans
settled-fine b room passes (Err why) k bits spans e = absurd (refused-done e)
settled-fine b room passes (Ok k') k bits spans e = row_fine (closed_of b) (visits_of b passes) (fill_of b) room k' k bits spans e

-- ---- the K that an accepted build answers is the layout's

abbrev k_of : Result Built Refusal → ℕ
k_of (Ok ended) = ended.k
k_of (Err why) = 0

k-of-room : (t u : Bool) (j bits' spans' : ℕ) {k bits spans : ℕ}
    → pick t (Err (TooShort 0)) (pick u (Err (TooShort 1)) (done_with j bits' spans')) ≡ done_with k bits spans → j ≡ k
k-of-room true u j bits' spans' e = absurd (refused-done e)
k-of-room false true j bits' spans' e = absurd (refused-done e)
k-of-room false false j bits' spans' e = ap k_of e

k-of-placed : (room : Room) (j bits' spans' : ℕ) {k bits spans : ℕ} (p : Placed) → placed_build room j bits' spans' p ≡ done_with k bits spans → j ≡ k
k-of-placed room j bits' spans' (stops why) e = absurd (refused-done e)
k-of-placed room j bits' spans' (holds stored) e = k-of-room (ltb (8 * room.image) bits') (ltb room.spans spans') j bits' spans' e

settled-k : (b : Input) (room : Room) (passes : ℕ) {k bits spans : ℕ} (s : Result ℕ Refusal) → settled_build b room passes s ≡ done_with k bits spans → s ≡ Ok k
settled-k b room passes (Err why) e = absurd (refused-done e)
settled-k b room passes (Ok j) e =
    let vs = visits_of b passes in
    ap Ok (k-of-placed room j (length_of (fill_of b) (items_of vs)) (length (spans_of vs)) (placed_all (closed_of b) vs) e)

pub settled_is : (a : Accepted) → settled_of a.call.given ≡ Ok a.k
settled_is a =
    settled-k a.call.given (room_of a.call.old) a.call.answer.passes (settled_of a.call.given) (sym (build-is a.call) ∙ a.done)

-- so its banks pass their check
pub banks-sound : (a : Accepted) → check_of a.call.given.banks ≡ Yes
banks-sound a = (accepted-checked a.call.given.banks a.call.given.lists a.call.given.choices a.k (settled_is a)).table
