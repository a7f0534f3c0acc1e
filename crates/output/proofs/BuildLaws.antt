-- The build's answer by what the first walk found, one law for each return.
use Rattle.std.specs.Prelude.{Err, Result}
use mathlib.Core.Path.{◌≡◌, refl, sym, ap, subst, ◌∙◌}
use mathlib.Core.Logic.{⊎_elim}
use mathlib.Core.Bool.{Bool, true, false}
use mathlib.Core.List.{List}
use Prim.Native.Nat.{ℕ, ◌+◌, ◌-◌, ◌*◌, ◌/◌, ◌≤◌}
use native.Mathlib.Nat.{le_trans, mul-le-mul_right, add-mul, one-mul}
use native.Mathlib.Omega.{arith}
use borrow.Author.Tests.{ltb-false, le-ltb, lt-ltb}
use lib.Dec.{ltb}
use lib.IntN.{ℤ}
use lib.ListN.{length}
use Rattle.prelude.specs.Laws.Bools.{unlike}
use Rattle.prelude.specs.Pick.{pick}
use Rattle.prelude.specs.Laws.Pick.{pick-false}
use Rattle.prelude.specs.declared.Refusal.{Refusal}
use Rattle.prelude.specs.declared.Refusal.TheVariants.{TooShort}
use Rattle.prelude.specs.Verdict.{Accepted, Verdict}
use Rattle.bankdef.specs.Check.{banks_of}
use Rattle.iter.specs.declared.Lost.{Lost}
use Rattle.nodes.specs.Lists.{Row}
use Rattle.resolver.specs.Once.{Program}
use Rattle.overlap_checker.specs.Laws.Ascending.{lt-or-le}
use Rattle.build_visits.specs.Visits.{visits}
use Rattle.build_visits.specs.Items.{items_of, length_of, image_of}
use Rattle.build_write.specs.Blank.{blank_of}
use Rattle.build_visits.specs.Laws.ItemLaws.{end-within}
use Rattle.build_plan.specs.Placing.{Placed, holds, stops, placed_all}
use Rattle.build_visits.specs.Spans.{spans_of, over, addresses, words, sizes}
use Rattle.output.specs.Output.{Lent, lent, Room, room_of, room_for, output_of, refused_after, placed_build, build_row, left_by}
use Rattle.build_plan.specs.Laws.Plan.{Planned, verdict_placed}
use Rattle.output.specs.Steps.{InValues, room_verdict, RowBuilt}
use Rattle.build_write.specs.Writes.{HasRoom}
use Rattle.build_plan.specs.declared.Plan.{Plan}
use Rattle.output.specs.declared.Output.{Output}
use Rattle.output.specs.declared.Built.{Built}
use Rattle.output.specs.Built.{done_with}

-- ---- room

-- bytes too few, counted in whole bytes
pub bytes-short : (bytes bits : ℕ) → ltb bytes ((bits + 7) / 8) ≡ ltb (8 * bytes) bits
bytes-short bytes bits =
    ⊎_elim
    (λ less. rw (lt-ltb (8 * bytes) bits less) (lt-ltb bytes ((bits + 7) / 8) (omega arith)))
    (λ enough. rw (le-ltb (8 * bytes) bits enough) (le-ltb bytes ((bits + 7) / 8) (omega arith)))
    (lt-or-le (8 * bytes) bits)

-- a row of n begins at r times n, and ends within the lists
pub row_ends : (last rows n : ℕ) → 1 ≤ last → last ≤ rows → (last - 1) * n + n ≤ rows * n
row_ends last rows n some low =
    let e : last ≡ last - 1 + 1 = omega arith in
    let whole : last * n ≡ (last - 1) * n + n = ap (λ (k : ℕ). k * n) e ∙ add-mul (last - 1) 1 n ∙ ap (λ (k : ℕ). (last - 1) * n + k) (one-mul n) in
    omega (arith, mul-le-mul_right n low)

-- ---- the answer

stopped_by : (q : Placed) (why : Refusal) → verdict_placed q ≡ Err why → q ≡ stops why
stopped_by (holds l) why e = unlike cc
stopped_by (stops other) why e = cc

built-by : (room : Room) (k bits spans : ℕ) (q : Placed) → verdict_placed q ≡ Accepted → placed_build room k bits spans q ≡ room_for room k bits spans
built-by room k bits spans (holds l) e = refl
built-by room k bits spans (stops why) e = unlike cc

-- ---- room, by the verdict on it

module _ (t u : Bool) where
  short-by : (done : Result Built Refusal) (why : Refusal) → pick t (Err (TooShort 0)) (pick u (Err (TooShort 1)) Accepted) ≡ Err why
      → pick t (Err (TooShort 0)) (pick u (Err (TooShort 1)) done) ≡ Err why
  short-by = tests t u
    where
      tests : (a b : Bool) (done : Result Built Refusal) (why : Refusal) → pick a (Err (TooShort 0)) (pick b (Err (TooShort 1)) Accepted) ≡ Err why
          → pick a (Err (TooShort 0)) (pick b (Err (TooShort 1)) done) ≡ Err why
      tests true b done why e = cc
      tests false true done why e = cc
      tests false false done why e = unlike cc

  roomy-by : pick t (Err (TooShort 0)) (pick u (Err (TooShort 1)) Accepted) ≡ Accepted → (t ≡ false) × (u ≡ false)
  roomy-by = tests t u
    where
      tests : (a b : Bool) → pick a (Err (TooShort 0)) (pick b (Err (TooShort 1)) Accepted) ≡ Accepted → (a ≡ false) × (b ≡ false)
      tests true b e = unlike cc
      tests false true e = unlike cc
      tests false false e = (refl, refl)

module _ (p : Program) (row : Row) (closed : Bool) (fill k passes : ℕ) (values : List ℕ) (old : Lent) (plan : Plan)
    (planned : Planned p row closed fill plan) where
  -- a build that changes nothing
  kept : (why : Refusal) → Err why ≡ build_row closed (visits p row) fill (room_of old) k → (x : Output) → x ≡ refused_after passes why
      → RowBuilt p row closed fill k passes values old x old
  kept why e x is =
      record {
        answer = is ∙ ap (output_of p row passes) e;
        left = ap (λ (o : Output). left_by p.banks (visits p row) values old o.build) (sym is);
      }

  pub row-stopped : (why : Refusal) → plan.verdict ≡ Err why → (x : Output) → x ≡ refused_after passes why
      → RowBuilt p row closed fill k passes values old x old
  row-stopped why e =
      kept why
      (sym (ap (placed_build (room_of old) k (length_of fill (items_of (visits p row))) (length (spans_of (visits p row))))
      (stopped_by (placed_all closed (visits p row)) why (sym planned.verdict ∙ e))))

  module _ (accepted : plan.verdict ≡ Accepted) where
    answers : build_row closed (visits p row) fill (room_of old) k ≡ room_for (room_of old) k plan.length plan.spans
    answers =
        built-by (room_of old) k (length_of fill (items_of (visits p row))) (length (spans_of (visits p row))) (placed_all closed (visits p row))
        (sym planned.verdict ∙ accepted)
        ∙ ap (λ (n : ℕ). room_for (room_of old) k n (length (spans_of (visits p row)))) (sym (planned.reach accepted))
        ∙ ap (λ (n : ℕ). room_for (room_of old) k plan.length n) (sym (planned.count accepted))

    module _ {v : Verdict} (told : v ≡ room_verdict (length old.image) (room_of old).spans plan.length plan.spans) where
      -- there is no room
      pub row-short : (why : Refusal) → v ≡ Err why → (x : Output) → x ≡ refused_after passes why
          → RowBuilt p row closed fill k passes values old x old
      row-short why e =
          kept why
          (sym (answers
          ∙ short-by (ltb (8 * length old.image) plan.length) (ltb (room_of old).spans plan.spans) (done_with k plan.length plan.spans) why
          (sym told ∙ e)))

      module _ (fits : v ≡ Accepted) where
        tests : (ltb (8 * length old.image) plan.length ≡ false) × (ltb (room_of old).spans plan.spans ≡ false)
        tests = roomy-by (ltb (8 * length old.image) plan.length) (ltb (room_of old).spans plan.spans) (sym told ∙ fits)

        -- there is room for every written item and every span
        pub has_room : InValues (length values) (items_of (visits p row))
            → HasRoom (visits p row) (length values) (length old.image) (length old.addresses) (length old.offsets) (length old.sizes)
        has_room within =
            let n = planned.count accepted in
            let enough = ltb-false (room_of old).spans plan.spans tests.1 in
            record {
              items = λ x m. (
                le_trans (end-within fill m)
                    (subst (λ (b : ℕ). b ≤ 8 * length old.image) (planned.reach accepted)
                    (ltb-false (8 * length old.image) plan.length tests.0)),
                within x m,
              );
              first = omega (arith, n, enough);
              second = omega (arith, n, enough);
              third = omega (arith, n, enough);
            }

        pub row_done : (image' : List ℕ) (addressed' : List ℤ) (offsets' sized' : List ℕ)
            → image' ≡ image_of values (blank_of (banks_of p.banks) plan.length (length old.image)) (items_of (visits p row))
            → addressed' ≡ over (addresses (spans_of (visits p row))) old.addresses
            → offsets' ≡ over (words (spans_of (visits p row))) old.offsets
            → sized' ≡ over (sizes (spans_of (visits p row))) old.sizes
            → RowBuilt p row closed fill k passes values old
            (record { build = done_with k plan.length plan.spans; passes = passes; padding = plan.padding }) (lent image' addressed' offsets' sized')
        row_done image' addressed' offsets' sized' a b c d =
            record {
              answer =
                  ap (λ (l : List Lost). record { build = done_with k plan.length plan.spans; passes = passes; padding = l }) (planned.padding accepted)
                  ∙ ap (output_of p row passes) (sym (answers ∙ pick-false _ _ tests.0 ∙ pick-false _ _ tests.1));
              left = rw (a, b, c, d);
            }
