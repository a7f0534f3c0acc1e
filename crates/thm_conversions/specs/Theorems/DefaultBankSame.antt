-- Theorems about what Same defines.
use Rattle.std.specs.Prelude.{ℕ, ◌*◌, ◌≤◌, ◌<◌, ◌≡◌, refl, Bool, true, false, List, [], ◌∷◌, ltb, get_or, length, take, replicate, Err, Result, Ok}
use Rattle.std.proofs.Common.{sym, ap, ◌∙◌, arith}
use Rattle.prelude.specs.Laws.Bools.{either, both, unlike}
use Rattle.prelude.specs.Limits.{max_banks}
use Rattle.prelude.specs.Pick.{pick}
use Rattle.prelude.specs.Laws.Pick.{pick_true, pick-false}
use Rattle.prelude.specs.declared.Refusal.{Refusal}
use Rattle.prelude.specs.declared.Refusal.TheVariants.{BankCount, BankNumber, Malformed, TooShort}
use Rattle.prelude.specs.Verdict.{Accepted, Verdict}
use Rattle.bankdef.specs.Check.{no_bank, banks_of, count_sound, check_banks, check_of}
use Rattle.bankdef.specs.Fill.{fill_by}
use Rattle.bankdef.specs.Numbers.{fill_bit, bank_fault}
use Rattle.bankdef.specs.declared.Bankdef.{Bankdef}
use Rattle.bankdef.specs.declared.Bankdefs.{Bankdefs}
use Rattle.iter.specs.Step.{no_lost}
use Rattle.iter.specs.declared.Lost.{Lost}
use Rattle.resolver.proofs.LastPass.{accepted-checked}
use Rattle.resolver.specs.Layout.{unless, layout_of}
use Rattle.nodes.specs.Lists.{Lists, Row, row_count_sound, known_fill, lists_of}
use Rattle.resolver.specs.Once.{Program, bank_record}
use Rattle.resolver.specs.Passes.{program, row_of_pass, resolution_of}
use Rattle.nodes.specs.Theorems.Sound.{accepted-lists}
use Rattle.resolver.specs.declared.Resolution.{Resolution}
use Rattle.build_write.specs.Blank.{blank_of}
use Rattle.build_write.specs.Laws.Blank.{blank-zeros}
use Rattle.build_visits.specs.Items.{Item, length_of, image_of, items_of}
use Rattle.output.specs.Output.{Input, Room, room_of, Lent, output_of, room_for, placed_build, build_row, visits_of, closed_of, fill_of, settled_build}
use Rattle.build_plan.specs.Plan.{paddings_of}
use Rattle.output.specs.Output.{passes_of, settled_of, build_of, left_by, Builds}
use Rattle.build_plan.specs.Placing.{Placed, holds, stops, closes_default, placed_all}
use Rattle.build_visits.specs.Spans.{Span, spans_of, over, addresses, words, sizes}
use Rattle.build_visits.specs.Visits.{visits}
use Rattle.output.specs.declared.Output.{Output}
use Rattle.output.specs.declared.Built.{Built}
use Rattle.output.specs.Built.{done_with}
use Rattle.thm_conversions.specs.Widened.{only_bank, bare, two_banks, with_switch, closing, widened, with_bank1}
use Rattle.thm_conversions.specs.Widened.{OneBank, shifted, misplaced, counts_sound, raised, raised_build, raised_output}
use Rattle.thm_conversions.specs.Cells.{zeroed, Counted}
use Rattle.thm_conversions.specs.Laws.Checks.{one-bank-check, two-bank-check, shifted_verdict, some-row, field-here, field-there, lists-shift}
use Rattle.thm_conversions.specs.Laws.Walks.{leading, Leads}
use Rattle.thm_conversions.specs.Laws.Passes.{shifted_settled, shifted_resolution, leads, program-leads, row-of-pass, resolution-shifts}
use Rattle.thm_conversions.specs.Laws.Visits.{shifted_placed, items-same, spans-same, placed-shifts}
use Rattle.thm_conversions.specs.Laws.Padding.{paddings}
use Rattle.thm_conversions.specs.DefaultBankSame.{TwoBanks}
use Rattle.thm_conversions.specs.Laws.DefaultBankSame.{after_table, build-is, built_by, fill-alike, refused-first, turned_away, two-banks}

module _ (b : Input) (table : Bankdefs) (one : OneBank b) (two : TwoBanks (only_bank b) table) where
  abbrev l : Lists
  l = b.lists

  abbrev w : Input
  w = widened b table

  pub counted : Counted l
  counted = record { operands = one.operands; numbers = one.numbers; states = one.states }

  kept : bank_record table 1 ≡ bank_record b.banks 0
  kept = ap (λ (k : List Bankdef). get_or k 1 no_bank) two.banks

  pub single : banks_of b.banks ≡ only_bank b ∷ []
  single = go b.banks.len b.banks.defs one.count one.table
    where
      go : (n : ℕ) (defs : List Bankdef) → n ≡ 1 → length defs ≡ max_banks → take n defs ≡ get_or (take n defs) 0 no_bank ∷ []
      go n [] e f = absurd (never f)
        where
          never : 0 ≡ max_banks → ⊥
          never g = omega arith
      go n (d ∷ defs) e f = rw e

  -- ---- before the passes

  pub check-here : check_of b.banks ≡ pick (bank_fault (only_bank b)) (Err (BankNumber 0)) Accepted
  check-here = law one.count single ∙ one-bank-check (only_bank b) one.bit
    where
      law : {n : ℕ} {k : List Bankdef} → n ≡ 1 → k ≡ only_bank b ∷ [] → pick (count_sound n) (check_banks k) (Err BankCount) ≡ check_banks (only_bank b ∷ [])
      law e f = rw (e, f)

  pub check-there : check_of table ≡ pick (bank_fault (only_bank b)) (Err (BankNumber (pick (misplaced (only_bank b)) 0 1))) Accepted
  check-there = law two.count two.banks ∙ two-bank-check (only_bank b)
    where
      law : {n : ℕ} {k x : List Bankdef} → n ≡ 2 → k ≡ x → pick (count_sound n) (check_banks k) (Err BankCount) ≡ check_banks x
      law e f = rw (e, f)

  -- with sound banks: what the checks say, and where a refusal's place goes
  module _ (sound : bank_fault (only_bank b) ≡ false) where
    pub table_here : check_of b.banks ≡ Accepted
    table_here = check-here ∙ pick-false _ _ sound

    pub table-there : check_of table ≡ Accepted
    table-there = check-there ∙ pick-false _ _ sound

    pub stays-miscounted : counts_sound b ≡ false → (why : Refusal) → why ≡ raised b why
    stays-miscounted counts why = law (BankNumber (pick (misplaced (only_bank b)) 0 1)) (shifted why) why sound counts
      where
        law : {s t : Bool} (x y z : Refusal) → s ≡ false → t ≡ false → z ≡ pick s x (pick t y z)
        law x y z e f = rw (e, f)

    pub shifts-counted : counts_sound b ≡ true → (why : Refusal) → shifted why ≡ raised b why
    shifts-counted counts why = law (BankNumber (pick (misplaced (only_bank b)) 0 1)) (shifted why) why sound counts
      where
        law : {s t : Bool} (x y z : Refusal) → s ≡ false → t ≡ true → y ≡ pick s x (pick t y z)
        law x y z e f = rw (e, f)

  -- ---- the row of the last pass

  fills : fill_of w ≡ fill_of b
  fills =
      ap (fill_by b.choices.fill) two.banks
      ∙ fill-alike (only_bank b) b.choices.fill
      ∙ ap (fill_by b.choices.fill) (sym single)

  pub open-here : closed_of b ≡ false
  open-here = law one.count one.unclosed
    where
      law : {n : ℕ} {t : Bool} → n ≡ 1 → t ≡ false → closes_default n t ≡ false
      law e f = rw (e, f)

  abbrev sides : Program
  sides = program b.banks l

  module _ (some : 1 ≤ l.rows) (n : ℕ) where
    led : Leads sides table
    led = leads b.banks table l counted some one.switches kept

    same-program : program table (with_switch l) ≡ leading table sides
    same-program = program-leads b.banks table l counted some one.switches kept

    same_row : row_of_pass (with_switch l) n ≡ zeroed (row_of_pass l n)
    same_row = row-of-pass b.banks table l counted some one.switches kept n

    visits-are : visits_of w n ≡ visits (leading table sides) (zeroed (row_of_pass l n))
    visits-are = law same-program same_row
      where
        law : {p q : Program} {r s : Row} → p ≡ q → r ≡ s → visits p r ≡ visits q s
        law e f = rw (e, f)

    same-items : items_of (visits_of w n) ≡ items_of (visits_of b n)
    same-items = ap items_of visits-are ∙ items-same sides table led (row_of_pass l n)

    same-spans : spans_of (visits_of w n) ≡ spans_of (visits_of b n)
    same-spans = ap spans_of visits-are ∙ spans-same sides table led (row_of_pass l n)

    same-placed : placed_all true (visits_of w n) ≡ shifted_placed (placed_all false (visits_of b n))
    same-placed = ap (placed_all true) visits-are ∙ placed-shifts sides table led (row_of_pass l n)

    same-paddings : paddings_of (program table (with_switch l)) (row_of_pass (with_switch l) n)
        ≡ no_lost ∷ get_or (paddings_of sides (row_of_pass l n)) 0 no_lost ∷ replicate 14 no_lost
    same-paddings = law same-program same_row ∙ paddings sides table led (row_of_pass l n)
      where
        law : {p q : Program} {r s : Row} → p ≡ q → r ≡ s → paddings_of p r ≡ paddings_of q s
        law e f = rw (e, f)

  module _ (room : Room) where
    abbrev Goal : Type 0
    Goal = build_of w room ≡ raised_output b (build_of b room)

    abbrev layout_here : Resolution
    layout_here = layout_of b.banks l b.choices

    abbrev layout_there : Resolution
    layout_there = layout_of table (with_switch l) (closing b.choices)

    from-layouts : {x y : Resolution} → layout_here ≡ x → layout_there ≡ y → built_by w room y ≡ raised_output b (built_by b room x) → Goal
    from-layouts e f g =
        build-is w room ∙ ap (built_by w room) f ∙ g ∙ ap (λ (r : Resolution). raised_output b (built_by b room r)) (sym e)
        ∙ ap (raised_output b) (sym (build-is b room))

    away : (why other : Refusal) → other ≡ raised b why → built_by w room (turned_away other) ≡ raised_output b (built_by b room (turned_away why))
    away why other e = rw e

    -- 2
    faulty : bank_fault (only_bank b) ≡ true → Goal
    faulty e =
        from-layouts {x = turned_away (BankNumber 0)} {y = turned_away (BankNumber (pick (misplaced (only_bank b)) 0 1))}
        (refused-first b.banks l b.choices (BankNumber 0) (check-here ∙ pick_true _ _ e))
        (refused-first table (with_switch l) (closing b.choices) (BankNumber (pick (misplaced (only_bank b)) 0 1)) (check-there ∙ pick_true _ _ e))
        (away (BankNumber 0) (BankNumber (pick (misplaced (only_bank b)) 0 1)) (sym (pick_true _ _ e)))

    module _ (sound : bank_fault (only_bank b) ≡ false) where
      lists-here : (v : Verdict) → lists_of 1 l b.choices.fill ≡ v → layout_here ≡ unless v (resolution_of b.banks l b.choices.limit)
      lists-here v e = after_table b.banks l b.choices v (table_here sound) (ap (λ (n : ℕ). lists_of n l b.choices.fill) one.count ∙ e)

      lists-there : (v : Verdict) → lists_of 2 (with_switch l) b.choices.fill ≡ v
          → layout_there ≡ unless v (resolution_of table (with_switch l) b.choices.limit)
      lists-there v e =
          after_table table (with_switch l) (closing b.choices) v (table-there sound)
          (ap (λ (n : ℕ). lists_of n (with_switch l) b.choices.fill) two.count ∙ e)

      -- 4 with a field
      miscounted : counts_sound b ≡ false → Goal
      miscounted e =
          let why = Malformed (pick (row_count_sound l) 3 1) in
          from-layouts {x = turned_away why} {y = turned_away why}
          (lists-here (Err why) (field-here l counted one.switches one.room b.choices.fill e))
          (lists-there (Err why) (field-there l counted one.switches one.room b.choices.fill e))
          (away why why (stays-miscounted sound e why))

      module _ (counts : counts_sound b ≡ true) where
        row_count : row_count_sound l ≡ true
        row_count = (both (row_count_sound l) (known_fill b.choices.fill) counts).0

        known-fill : known_fill b.choices.fill ≡ true
        known-fill = (both (row_count_sound l) (known_fill b.choices.fill) counts).1

        some : 1 ≤ l.rows
        some = some-row l counted one.switches row_count

        lists-shifted : lists_of 2 (with_switch l) b.choices.fill ≡ shifted_verdict (lists_of 1 l b.choices.fill)
        lists-shifted = lists-shift l counted one.switches one.room b.choices.fill row_count known-fill

        -- ---- the build

        room-alike : (k bits spans : ℕ) → room_for room k bits spans ≡ raised_build b (room_for room k bits spans)
        room-alike k bits spans = go (ltb (8 * room.image) bits) (ltb room.spans spans)
          where
            go : (x y : Bool)
                → pick x (Err (TooShort 0)) (pick y (Err (TooShort 1)) (done_with k bits spans))
                ≡ raised_build b (pick x (Err (TooShort 0)) (pick y (Err (TooShort 1)) (done_with k bits spans)))
            go true y = ap (λ (why : Refusal). Err why) (shifts-counted sound counts (TooShort 0))
            go false true = ap (λ (why : Refusal). Err why) (shifts-counted sound counts (TooShort 1))
            go false false = refl

        placed_alike : (k bits spans : ℕ) (q : Placed) → placed_build room k bits spans (shifted_placed q) ≡ raised_build b (placed_build room k bits spans q)
        placed_alike k bits spans (holds stored) = room-alike k bits spans
        placed_alike k bits spans (stops why) = ap (λ (r : Refusal). Err r) (shifts-counted sound counts why)

        row-alike : (n k : ℕ) → build_row (closed_of w) (visits_of w n) (fill_of w) room k ≡ raised_build b (build_row (closed_of b) (visits_of b n) (fill_of b) room k)
        row-alike n k =
            law fills (same-items some n) (same-spans some n) (same-placed some n)
            ∙ placed_alike k (length_of (fill_of b) (items_of (visits_of b n))) (length (spans_of (visits_of b n))) (placed_all false (visits_of b n))
            ∙ ap (λ (t : Bool). raised_build b (build_row t (visits_of b n) (fill_of b) room k)) (sym open-here)
          where
            law : {f g : ℕ} {i j : List Item} {s t : List Span} {p q : Placed} → f ≡ g → i ≡ j → s ≡ t → p ≡ q
                → placed_build room k (length_of f i) (length s) p ≡ placed_build room k (length_of g j) (length t) q
            law e f g h = rw (e, f, g, h)

        settled-alike : (n : ℕ) (s : Result ℕ Refusal) → settled_build w room n (shifted_settled s) ≡ raised_build b (settled_build b room n s)
        settled-alike n (Ok k) = row-alike n k
        settled-alike n (Err why) = ap (λ (r : Refusal). Err r) (shifts-counted sound counts why)

        output-alike : (n : ℕ) (x : Result Built Refusal)
            → output_of (program table (with_switch l)) (row_of_pass (with_switch l) n) n (raised_build b x) ≡ raised_output b (output_of sides (row_of_pass l n) n x)
        output-alike n (Ok ended) = ap (with-padding (Ok ended)) (same-paddings some n)
          where
            with-padding : Result Built Refusal → List Lost → Output
            with-padding x sums = record { build = x; passes = n; padding = sums }
        output-alike n (Err why) = refl

        built_alike : (r : Resolution) → built_by w room (shifted_resolution r) ≡ raised_output b (built_by b room r)
        built_alike r =
            ap (output_of (program table (with_switch l)) (row_of_pass (with_switch l) r.passes) r.passes) (settled-alike r.passes r.settled)
            ∙ output-alike r.passes (settled_build b room r.passes r.settled)

        laid : (v : Verdict) → lists_of 1 l b.choices.fill ≡ v → Goal
        laid (Err why) e =
            from-layouts {x = turned_away why} {y = turned_away (shifted why)}
            (lists-here (Err why) e) (lists-there (Err (shifted why)) (lists-shifted ∙ ap shifted_verdict e))
            (away why (shifted why) (shifts-counted sound counts why))
        laid Accepted e =
            from-layouts {x = resolution_of b.banks l b.choices.limit} {y = shifted_resolution (resolution_of b.banks l b.choices.limit)}
            (lists-here Accepted e)
            (lists-there Accepted (lists-shifted ∙ ap shifted_verdict e)
            ∙ resolution-shifts b.banks table l counted some one.switches kept b.choices.limit)
            (built_alike (resolution_of b.banks l b.choices.limit))

    -- "node numbers in places rise by one": accepted exactly when accepted, with the same K, passes, length and spans; refused with the same number, at
    -- the place that `raised` says.
    pub same_answer : Goal
    same_answer = either (bank_fault (only_bank b)) faulty (λ s. either (counts_sound b) (λ c. laid s c (lists_of 1 l b.choices.fill) refl) (miscounted s))

  -- ---- what is lent

  zeros-here : (bits bytes : ℕ) → blank_of (banks_of b.banks) bits bytes ≡ replicate bytes 0
  zeros-here bits bytes = ap (λ (k : List Bankdef). blank_of k bits bytes) single
      ∙ blank-zeros (only_bank b ∷ []) bits bytes (λ k low high. absurd (none k low high))
    where
      none : (k : ℕ) → 0 < k → k < 1 → ⊥
      none k low high = omega arith

  zeros-there : (bits bytes : ℕ) → blank_of (banks_of table) bits bytes ≡ replicate bytes 0
  zeros-there bits bytes = ap (λ (k : List Bankdef). blank_of k bits bytes) two.banks ∙ blank-zeros (bare (only_bank b) ∷ only_bank b ∷ []) bits bytes second
    where
      second : (k : ℕ) → 0 < k → k < 2 → fill_bit (get_or (bare (only_bank b) ∷ only_bank b ∷ []) k no_bank) ≡ 0
      second k low high = let e : k ≡ 1 = omega arith in rw e one.bit

  some-rows : (room : Room) (passes : ℕ) (s : Result ℕ Refusal) → settled_of b ≡ s → {k bits spans : ℕ} → settled_build b room passes s ≡ done_with k bits spans → 1 ≤ l.rows
  some-rows room passes (Ok k) e f =
      (accepted-lists b.banks.len l b.choices.fill (accepted-checked b.banks l b.choices k e).lists).rows.some
  some-rows room passes (Err why) e f = absurd (never f)
    where
      never : {k bits spans : ℕ} → Err why ≡ done_with k bits spans → ⊥
      never g = unlike cc

  left-alike : (values : List ℕ) (old : Lent) (n : ℕ) (x : Result Built Refusal) → ((k bits spans : ℕ) → x ≡ done_with k bits spans → 1 ≤ l.rows)
      → left_by table (visits_of w n) values old (raised_build b x) ≡ left_by b.banks (visits_of b n) values old x
  left-alike values old n (Err why) rows = refl
  left-alike values old n (Ok ended) rows =
      let some = rows ended.k ended.length ended.spans refl in
      law (zeros-there ended.length (length old.image) ∙ sym (zeros-here ended.length (length old.image))) (same-items some n) (same-spans some n)
    where
      left : List ℕ → List Item → List Span → Lent
      left blank items spans =
          record {
            image = image_of values blank items;
            addresses = over (addresses spans) old.addresses;
            offsets = over (words spans) old.offsets;
            sizes = over (sizes spans) old.sizes;
          }

      law : {x y : List ℕ} {i j : List Item} {s t : List Span} → x ≡ y → i ≡ j → s ≡ t → left x i s ≡ left y j t
      law e f g = rw (e, f, g)

  -- Two calls of the build, by its contract, with the same lent: the answers are one but for the places, and everything lent is the same afterwards.
  pub same-build : (old : Lent) {r s : Output} {new other : Lent} → Builds b old r new → Builds w old s other → (s ≡ raised_output b r) × (other ≡ new)
  same-build old {r} {s} here there =
      let answers : s ≡ raised_output b r = there.answer ∙ same_answer (room_of old) ∙ ap (raised_output b) (sym here.answer) in
      let rows : (k bits spans : ℕ) → r.build ≡ done_with k bits spans → 1 ≤ l.rows =
      λ k bits spans e. some-rows (room_of old) (passes_of b) (settled_of b) refl (sym (built old r here.answer) ∙ e) in (
        answers,
        there.left
            ∙ ap (λ (o : Output). left_by table (visits_of w o.passes) l.values old o.build) answers
            ∙ left-alike l.values old r.passes r.build rows
            ∙ sym here.left,
      )
    where
      built : (old : Lent) (r : Output) → r ≡ build_of b (room_of old) → r.build ≡ settled_build b (room_of old) (passes_of b) (settled_of b)
      built old r e = ap (λ (o : Output). o.build) (e ∙ build-is b (room_of old))

-- Of the layout with the table that the converter makes.
module _ (b : Input) (one : OneBank b) where
  pub converted-same-answer : (room : Room) → build_of (with_bank1 b) room ≡ raised_output b (build_of b room)
  converted-same-answer room = same_answer b (two_banks (only_bank b)) one (two-banks (only_bank b)) room

  pub converted-same-build : (old : Lent) {r s : Output} {new other : Lent} → Builds b old r new → Builds (with_bank1 b) old s other
      → (s ≡ raised_output b r) × (other ≡ new)
  converted-same-build old here there = same-build b (two_banks (only_bank b)) one (two-banks (only_bank b)) old here there
