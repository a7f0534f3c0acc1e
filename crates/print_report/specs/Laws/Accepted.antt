-- An accepted build fits the room that it was given, and each number of a file's rows is within an offer's limits.
use Rattle.std.specs.Prelude.{◌≡◌, List, [], ◌∷◌, ◌++◌, ltb, length, get_or, take, drop, Result, Err, Ok}
use Rattle.std.proofs.Common.{sym, ap, ◌∙◌, arith, get_or-drop, ltb-false}
use Prim.Native.Nat.{ℕ, zero, suc, ◌+◌, ◌*◌, ◌≤◌, zero-le}
use Rattle.prelude.specs.Laws.Bools.{unlike}
use Rattle.prelude.specs.Limits.{max_position}
use Rattle.prelude.specs.Laws.Pick.{pick_true, pick-false}
use Rattle.prelude.specs.declared.Refusal.{Refusal}
use Rattle.prelude.specs.declared.Refusal.TheVariants.{TooShort}
use Rattle.build_visits.specs.Items.{items_of, length_of}
use Rattle.build_plan.specs.Placing.{Placed, holds, stops, placed_all}
use Rattle.build_visits.specs.Spans.{spans_of}
use Rattle.output.specs.Output.{Input, Room, room_for, placed_build, settled_build, visits_of, closed_of, fill_of}
use Rattle.output.specs.Built.{done_with, length_done, spans_done}
use Rattle.form_fields.specs.Laws.Fields.{by-test}
use Rattle.form_fields.specs.Columns.{column}
use Rattle.form_fields.specs.Lists.{cells}

-- ---- numbers within the limit

-- a part of numbers within the limit
small-take : (n : ℕ) (l : List ℕ) → ((i : ℕ) → get_or l i 0 ≤ max_position) → (i : ℕ) → get_or (take n l) i 0 ≤ max_position
small-take zero l h i = zero-le
small-take (suc n) [] h i = zero-le
small-take (suc n) (x ∷ l) h zero = h 0
small-take (suc n) (x ∷ l) h (suc i) = small-take n l (λ j. h (suc j)) i

pub small-part : (n from : ℕ) (l : List ℕ) → ((i : ℕ) → get_or l i 0 ≤ max_position) → (i : ℕ) → get_or (take n (drop from l)) i 0 ≤ max_position
small-part n from l h = small-take n (drop from l) (λ i. rw (get_or-drop from l i 0) (h (from + i)))

-- five bytes a cell, each number of 32 bits
small-append : (l m : List ℕ) → ((i : ℕ) → get_or l i 0 ≤ max_position) → ((i : ℕ) → get_or m i 0 ≤ max_position) → (i : ℕ) → get_or (l ++ m) i 0 ≤ max_position
small-append [] m hl hm i = hm i
small-append (x ∷ l) m hl hm zero = hl 0
small-append (x ∷ l) m hl hm (suc i) = small-append l m (λ j. hl (suc j)) hm i

module _ (read : ℕ → ℕ) (small : (at : ℕ) → read at ≤ max_position) where
  small-column : (step at n i : ℕ) → get_or (column read step at n) i 0 ≤ max_position
  unfolding column
  small-column step at zero i = zero-le
  small-column step at (suc n) zero = small at
  small-column step at (suc n) (suc i) = small-column step (at + step) n i

  pub small-cells : (nodes at rows i : ℕ) → get_or (cells read nodes at rows) i 0 ≤ max_position
  unfolding cells
  small-cells nodes at zero i = zero-le
  small-cells nodes at (suc rows) i =
      small-append (column read 5 at nodes) (cells read nodes (at + (3 + 5 * nodes)) rows) (small-column 5 at nodes)
      (small-cells nodes (at + (3 + 5 * nodes)) rows) i

-- ---- the room

not_done : (why : Refusal) (k bits n : ℕ) → Err why ≡ done_with k bits n → ⊥
not_done why k bits n e = unlike cc

done-bits : (k bits n k₁ bits₁ n₁ : ℕ) → done_with k₁ bits₁ n₁ ≡ done_with k bits n → bits₁ ≡ bits
done-bits k bits n k₁ bits₁ n₁ e = ap length_done e

done-spans : (k bits n k₁ bits₁ n₁ : ℕ) → done_with k₁ bits₁ n₁ ≡ done_with k bits n → n₁ ≡ n
done-spans k bits n k₁ bits₁ n₁ e = ap spans_done e

module _ (room : Room) (k bits n : ℕ) where
  abbrev pub Fits : ℕ → Type 0
  Fits n₁ = (bits ≤ 8 * room.image) × (n ≤ room.spans) × (n ≡ n₁)

  fits-room : (k₁ bits₁ n₁ : ℕ) → room_for room k₁ bits₁ n₁ ≡ done_with k bits n → Fits n₁
  fits-room k₁ bits₁ n₁ e =
      by-test (ltb (8 * room.image) bits₁)
      (λ y. absurd (not_done (TooShort 0) k bits n (sym (pick_true _ _ y) ∙ e)))
      (λ a.
      by-test (ltb room.spans n₁)
      (λ y. absurd (not_done (TooShort 1) k bits n (sym (pick_true _ _ y) ∙ sym (pick-false _ _ a) ∙ e)))
      (λ b.
      let same = sym (pick-false _ _ b) ∙ sym (pick-false _ _ a) ∙ e in
      let eb = done-bits k bits n k₁ bits₁ n₁ same in
      let en = done-spans k bits n k₁ bits₁ n₁ same in
      let ha = ltb-false (8 * room.image) bits₁ a in
      let hb = ltb-false room.spans n₁ b in
      (omega (arith, ha, eb), omega (arith, hb, en), sym en)))

  fits-placed : (k₁ bits₁ n₁ : ℕ) (q : Placed) → placed_build room k₁ bits₁ n₁ q ≡ done_with k bits n → Fits n₁
  fits-placed k₁ bits₁ n₁ (holds stored) e = fits-room k₁ bits₁ n₁ e
  fits-placed k₁ bits₁ n₁ (stops why) e = absurd (not_done why k bits n e)

  pub fits-settled : (b : Input) (passes : ℕ) (s : Result ℕ Refusal) → settled_build b room passes s ≡ done_with k bits n → Fits (length (spans_of (visits_of b passes)))
  fits-settled b passes (Err why) e = absurd (not_done why k bits n e)
  fits-settled b passes (Ok k₁) e =
      let vs = visits_of b passes in
      fits-placed k₁ (length_of (fill_of b) (items_of vs)) (length (spans_of vs)) (placed_all (closed_of b) vs) e
