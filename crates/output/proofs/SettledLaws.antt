-- From the passes to the row's build: what a layout that settled says of its lists, and the public answer from the row's.
use Rattle.std.specs.Prelude.{Ok, Err, Result, Option, None, Some}
use mathlib.Core.Path.{◌≡◌, refl, sym, ap, ap₂, subst, ◌∙◌}
use mathlib.Core.Logic.{⊎_elim}
use mathlib.Core.Bool.{Bool, true, false, ◌&&◌, ◌||◌}
use mathlib.Core.List.Memᴰ
use mathlib.Core.List.{List, Memᴰ}
use Prim.Native.Nat.{ℕ, ◌+◌, ◌-◌, ◌*◌, ◌≤◌, ◌<◌, min}
use native.Mathlib.Omega.{arith}
use borrow.Author.Tests.{ltb-false}
use lib.Dec.{ltb, leb, eqb}
use lib.ListN.{length, take, drop}
use Rattle.prelude.specs.Laws.Bools.{unlike}
use Rattle.prelude.specs.Limits.{max_nodes, max_rows}
use Rattle.prelude.specs.Pick.{pick}
use Rattle.prelude.specs.declared.Refusal.{Refusal}
use Rattle.prelude.specs.declared.Refusal.TheVariants.{Malformed, TooShort}
use Rattle.prelude.specs.declared.Place.TheVariants.{One}
use Rattle.prelude.specs.Told.{gives, refuses}
use Rattle.prelude.specs.Verdict.{Verdict, Accepted}
use Rattle.nodes.specs.Kinds.{is_item}
use Rattle.nodes.specs.declared.Node.{Node}
use Rattle.bankdef.specs.Check.{banks_of, check_of}
use Rattle.bankdef.specs.Fill.{fill_by}
use Rattle.bankdef.specs.declared.Bankdefs.{Bankdefs}
use Rattle.nodes.specs.Lists.{Lists, Row, Rows, row_at, past_end, node_of, nodes_to, lists_of, row_with}
use Rattle.resolver.specs.Once.{Program, node, program_with}
use Rattle.resolver.specs.Passes.{program, row_of_pass, resolution_of}
use Rattle.resolver.specs.Layout.{unless, layout_of}
use Rattle.nodes.specs.Theorems.Sound.{accepted-row, accepted-rows}
use Rattle.resolver.specs.declared.Choices.{Choices}
use Rattle.resolver.specs.declared.Resolution.{Resolution}
use Rattle.resolver.specs.Switches.{Switches}
use Rattle.resolver.specs.Theorems.Switches.{accepted-switches}
use Rattle.nodes.specs.Laws.Counts.{too-many-nodes}
use Rattle.nodes.specs.Laws.RowParts.{first_part, row-part}
use Rattle.overlap_checker.specs.Laws.Ascending.{lt-or-le}
use Rattle.build_visits.specs.Visits.{visits}
use Rattle.build_visits.specs.Laws.VisitLaws.{each_from, member-visit}
use Rattle.build_visits.specs.Items.{is_written, standing, item_of, items_of}
use Rattle.build_plan.specs.Placing.{Placed, holds, stops, placed_all}
use Rattle.build_plan.specs.Laws.PlacingLaws.{picked-some}
use Rattle.output.specs.Output.{Input, input, closed_of, Lent, Room, room_of, room_for, output_of, refused_after, placed_build, settled_build}
use Rattle.output.specs.Output.{build_of, visits_of, passes_of, settled_of}
use Rattle.output.specs.Output.{told_build, room_told, placed_told, settled_told, left_by, Builds}
use Rattle.output.specs.Steps.{InValues, RowBuilt}
use Rattle.build_visits.specs.declared.Visit.{Visit}
use Rattle.output.specs.declared.Output.{Output}
use Rattle.output.specs.Built.{done_with}

-- ---- a layout that settled passed every check

unless-at : (v : Verdict) (q : Resolution) (k : ℕ) → (unless v q).settled ≡ Ok k → (v ≡ Accepted) × (q.settled ≡ Ok k)
unless-at Accepted q k e = (refl, e)
unless-at (Err why) q k e = unlike cc

through : (b : Bool) (v : Verdict) (why : Refusal) → pick b v (Err why) ≡ Accepted → v ≡ Accepted
through true v why e = e
through false v why e = unlike cc

or_right : (a b : Bool) → (a || b) ≡ false → b ≡ false
or_right true b e = absurd (mathlib.Core.Bool.true≢false e)
or_right false b e = e

and_second : (a b : Bool) → a ≡ true → (a && b) ≡ false → b ≡ false
and_second true b h e = e
and_second false b h e = absurd (mathlib.Core.Bool.true≢false (sym h))

nodes-accepted : (banks : ℕ) (l : Lists) (fill : ℕ) → lists_of banks l fill ≡ Accepted → nodes_to banks l (length l.kinds) ≡ Accepted
unfolding lists_of
nodes-accepted banks l fill e =
    through (leb fill 1) (nodes_to banks l (length l.kinds)) (Malformed 3)
    (through
    (leb 1 l.rows
    && (leb l.rows max_rows && (eqb (length l.numbers) (l.rows * length l.kinds) && eqb (length l.states) (l.rows * length l.kinds))))
    _ (Malformed 1)
    (through (leb (length l.kinds) max_nodes && eqb (length l.operands) (length l.kinds)) _ (Malformed 0) e))

-- ---- the answer, as it is and in figures

room-told : (room : Room) (k bits spans : ℕ) → told_build (room_for room k bits spans) ≡ room_told room k bits spans
room-told room k bits spans = first (ltb (8 * room.image) bits) (ltb room.spans spans)
  where
    first : (a b : Bool)
        → told_build (pick a (Err (TooShort 0)) (pick b (Err (TooShort 1)) (done_with k bits spans)))
        ≡ pick a (refuses 14 (One 0)) (pick b (refuses 14 (One 1)) (gives (record { k = k; length = bits; spans = spans })))
    first true b = refl
    first false true = refl
    first false false = refl

placed-told : (room : Room) (k bits spans : ℕ) (q : Placed) → told_build (placed_build room k bits spans q) ≡ placed_told room k bits spans q
placed-told room k bits spans (stops why) = refl
placed-told room k bits spans (holds s) = room-told room k bits spans

settled-told : (b : Input) (room : Room) (s : Result ℕ Refusal) → told_build (settled_build b room (passes_of b) s) ≡ settled_told b room s
settled-told b room (Err why) = refl
settled-told b room (Ok k) = placed-told room k _ _ (placed_all (closed_of b) (visits_of b (passes_of b)))

-- the contract, from the build by the passes that were run
pub contract : (b : Input) (r : Resolution) → r ≡ layout_of b.banks b.lists b.choices → (old new : Lent) (x : Output)
    → x ≡ output_of (program b.banks b.lists) (row_of_pass b.lists r.passes) r.passes (settled_build b (room_of old) r.passes r.settled)
    → new ≡ left_by b.banks (visits_of b r.passes) b.lists.values old x.build
    → Builds b old x new
unfolding build_of
contract b r e old new x same left =
    let whole : x ≡ build_of b (room_of old) =
    same
    ∙ ap
    (λ (q : Resolution). output_of (program b.banks b.lists) (row_of_pass b.lists q.passes) q.passes
    (settled_build b (room_of old) q.passes q.settled)) e in
    record {
      answer = whole;
      figures = ap (λ (o : Output). told_build o.build) whole ∙ settled-told b (room_of old) (settled_of b);
      left =
          left
          ∙ ap (λ (n : ℕ). left_by b.banks (visits_of b n) b.lists.values old x.build) (sym (ap (λ (o : Output). o.passes) same));
    }

module _ (banks : Bankdefs) (l : Lists) (m : Choices) (r : Resolution) (resolves : r ≡ layout_of banks l m) where
  -- the answer by what the passes settled
  abbrev answers_for : Lent → Result ℕ Refusal → Output
  answers_for old s = output_of (program banks l) (row_of_pass l r.passes) r.passes (settled_build (input banks l m) (room_of old) r.passes s)

  module _ (k : ℕ) (settles : r.settled ≡ Ok k) where
    both-checks : (check_of banks ≡ Accepted) × (lists_of banks.len l m.fill ≡ Accepted)
    unfolding layout_of
    both-checks =
        let whole : (layout_of banks l m).settled ≡ Ok k = sym (ap (λ (q : Resolution). q.settled) resolves) ∙ settles in
        let (a, inner) = unless-at (check_of banks) (unless (lists_of banks.len l m.fill) (resolution_of banks l m.limit)) k whole in
        (a, (unless-at (lists_of banks.len l m.fill) (resolution_of banks l m.limit) k inner).0)

    checks : lists_of banks.len l m.fill ≡ Accepted
    checks = both-checks.1

    -- each bank switch names a bank of the table
    pub settled-switches : Switches banks.len l.kinds l.operands
    settled-switches = accepted-switches banks l m.fill refl both-checks.0 refl checks

    pub settled-rows : Rows (length l.kinds) l.rows l.numbers l.states
    settled-rows = accepted-rows banks.len l m.fill (sym checks) refl

    pub settled-few : length l.kinds ≤ max_nodes
    settled-few =
        ⊎_elim (λ many. absurd (never (too-many-nodes banks.len l m.fill many ∙ checks))) (λ few. few) (lt-or-le max_nodes (length l.kinds))
      where
        never : Err (Malformed 0) ≡ Accepted → ⊥
        never e = unlike cc

    -- every written item's bits are within the value bytes, in the row of any pass
    node-within : (n : ℕ) → n < l.rows → (i : ℕ) → i < length l.kinds → is_written (node (program banks l) (row_at l n) i) ≡ true
        → (node (program banks l) (row_at l n) i).operand + (node (program banks l) (row_at l n) i).number ≤ 8 * length l.values
    node-within n h i b w =
        let fault = accepted-row banks.len l (length l.kinds) (nodes-accepted banks.len l m.fill checks) i b n h in
        let v = node_of l.kinds l.operands l.numbers l.states n i in
        ltb-false (8 * length l.values) (v.operand + v.number)
        (and_second (is_item v.kind) (past_end (length l.values) v) w
        (or_right (ltb 2 v.kind && ltb 2 v.state) (is_item v.kind && past_end (length l.values) v) fault))

    in-values : (n : ℕ) → n < l.rows → InValues (length l.values) (items_of (visits (program banks l) (row_at l n)))
    in-values n h x m =
        let (v, mv, mx) = each_from item_of (visits (program banks l) (row_at l n)) m in
        let (i, low, same) = member-visit (program banks l) (row_at l n) (length l.kinds) mv in
        let (w, own) = picked-some (is_written v.node) (standing v.out v.node) mx in
        let here = ap (λ (u : Visit). u.node) same in
        let inside = node-within n h i low (subst (λ (y : Node). is_written y ≡ true) here w) in
        standing-within v.out v.node (rw here inside) own
      where
        standing-within : (out : Option ℕ) (y : Node) → y.operand + y.number ≤ 8 * length l.values → Memᴰ x (standing out y)
            → x.from + x.size ≤ 8 * length l.values
        standing-within None y inside k = absurd (Memᴰ.not-nil k)
        standing-within (Some o) y inside k = rw (Memᴰ.eq_of_singleton k) inside

    -- ---- the lists' parts are the program and its row

    module _ (start : ℕ) (starts : start ≡ (min r.passes l.rows - 1) * length l.kinds) where
      -- the parts of the lists that the row's build is lent
      abbrev lent-program : Program
      lent-program = program_with banks l.kinds l.operands (take (length l.kinds - 0) (drop 0 l.numbers))

      abbrev lent-part : List ℕ → List ℕ
      lent-part xs = take (start + length l.kinds - start) (drop start xs)

      abbrev lent_row : Row
      lent_row = row_with (lent-part l.numbers) (lent-part l.states)

      part-program : lent-program ≡ program banks l
      part-program = ap (program_with banks l.kinds l.operands) (first_part (length l.kinds) l.numbers)

      part : (xs : List ℕ) → lent-part xs ≡ take (length l.kinds) (drop ((min r.passes l.rows - 1) * length l.kinds) xs)
      part xs = rw starts (row-part (min r.passes l.rows - 1) (length l.kinds) xs)

      part-row : lent_row ≡ row_of_pass l r.passes
      part-row = ap₂ row_with (part l.numbers) (part l.states)

      pub part-values : InValues (length l.values) (items_of (visits lent-program lent_row))
      part-values =
          subst (λ (p : Program). InValues (length l.values) (items_of (visits p lent_row))) (sym part-program)
          (subst (λ (row : Row). InValues (length l.values) (items_of (visits (program banks l) row))) (sym part-row)
          (in-values (min r.passes l.rows - 1) (omega (arith, settled-rows.some))))

      -- the public answer from the row's
      pub finished : (old new : Lent) (x : Output)
          → RowBuilt lent-program lent_row (closed_of (input banks l m)) (fill_by m.fill (banks_of banks)) k r.passes l.values old x new
          → Builds (input banks l m) old x new
      finished old new x raw =
          let built = rw (part-program, part-row) at raw in
          contract (input banks l m) r resolves old new x
          (built.answer ∙ sym (ap (answers_for old) settles)) built.left

  pub refused : (why : Refusal) → r.settled ≡ Err why → (old : Lent) (x : Output) → x ≡ refused_after r.passes why → Builds (input banks l m) old x old
  refused why settles old x is =
      contract (input banks l m) r resolves old old x
      (is ∙ sym (ap (answers_for old) settles))
      (ap (λ (o : Output). left_by banks (visits_of (input banks l m) r.passes) l.values old o.build) (sym is))
