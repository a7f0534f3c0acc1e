-- The cells of a node, the line of the node at fault and that of the verdict: what the map shows of a layout, by the definitions, is what the sentences
-- print of its outcome. A node that is shown stands in a bank of the table, so that its address is told; a node at fault is one of the list's.
use Rattle.std.specs.Prelude.{◌≡◌, refl, Bool, true, false, List, [], ◌∷◌, map, eqb, ltb, ℤ, pos, ◌+ℤ◌, length, None, Some, Result, Err, Ok, Option}
use Rattle.std.proofs.Common.{sym, ap, subst, ◌∙◌, arith, eqb-true}
use Prim.Native.Nat.{ℕ, ◌-◌, ◌/◌, ◌≤◌, ◌<◌, min}
use Rattle.std.proofs.lemmas.Bool.{eqb-false}
use Rattle.prelude.specs.Laws.Bools.{either, unlike}
use Rattle.prelude.specs.Refusals.{number_of, place_of}
use Rattle.prelude.specs.Theorems.Told.{number-some}
use Rattle.prelude.specs.declared.Place.{Place}
use Rattle.prelude.specs.declared.Place.TheVariants.{One, Two}
use Rattle.prelude.specs.declared.Refusal.{Refusal}
use Rattle.prelude.specs.Verdict.{Verdict, Accepted}
use Rattle.bankdef.specs.declared.Bankdef.{Bankdef}
use Rattle.blocks.specs.Offsets.{no_offset}
use Rattle.iter.specs.Address.{address_of, units_from}
use Rattle.iter.specs.Theorems.ToldFacts.{address-when}
use Rattle.iter.specs.declared.Lost.{Lost}
use Rattle.nodes.specs.Theorems.Sound.{accepted-lists}
use Rattle.resolver.specs.Layout.{Checked}
use Rattle.resolver.specs.Once.{Program, bank_record}
use Rattle.resolver.specs.Passes.{row_of_pass}
use Rattle.build_plan.specs.Placing.{Placed, holds, stops, placed_all, walked_all}
use Rattle.output.specs.Output.{Input, closed_of, visits_of, passes_of, settled_of}
use Rattle.build_map.specs.Map.{traced_by, node_of, nodes_met, fault_met, settled_reach, reach_of, map_of, bank_shown, position_shown}
use Rattle.build_map.specs.Theorems.Reached.{ran-checked, none-run, shown-sees}
use Rattle.build_map.specs.declared.Reach.{Reach}
use Rattle.c_answers.specs.Maps.{ToldBy, node_told}
use Rattle.print_text.specs.Ascii.{ascii}
use Rattle.print_text.specs.Lines.{place_numbers, line}
use Rattle.print_map.specs.Cells as made
use Rattle.print_map.specs.Cells.{line_of, signed}
use Rattle.print_map.specs.Text.{address_cell, word_cell, fault_text, place_cells, refused_text, verdict_text}
use Rattle.says.specs.Build.{Given, nodes, kind, unit, start}
use Rattle.says.specs.Lines.{Line}
use Rattle.says.specs.Map.{Lent, no_node}
use Rattle.says.specs.MapText as says
use Rattle.says.specs.MapText.{Cell, Optional, Word, Whole, FaultLine, Verdict as Ends}
use Rattle.meets_sentences.specs.Typed.{Typed}
use Rattle.meets_build.specs.Laws.Contract.{input_of}
use Rattle.meets_build.specs.Laws.Shown.{Shown, Tells, listed, walked}
use Rattle.meets_build.specs.Laws.Table.{table, shown}
use Rattle.meets_build.specs.Laws.Walk.{Goes, in_table}
use Rattle.meets_map.specs.Places.{Places}
use Rattle.meets_report.specs.Laws.Lines.{line-meets}
use Rattle.meets_report.specs.Laws.Shown.{numbers-meet}
use Rattle.meets_map_text.specs.Laws.Records.{as_made, whole_meets, numbers-line, numbers-meet-line}

-- ---- a place in the output

pub word-column : (w : ℕ) → (c : Cell) × Optional (Word w) c × (as_made c ≡ word_cell w)
word-column w =
    either (eqb w no_offset)
    (λ t. (says.none, says.absent (λ n h. h.1 (h.0 ∙ eqb-true w no_offset t)), rw t))
    (λ t. (says.number w, says.there (refl, eqb-false w no_offset t), rw t))

-- ---- the node at fault is one of those that are shown, or the next

none-at : {i : ℕ} → None ≡ Some i → ⊥
none-at e = unlike cc

at_same : {i j : ℕ} → Some j ≡ Some i → j ≡ i
at_same e = cc

fault-met : (n : ℕ) (why : Refusal) (i : ℕ) → fault_met why ≡ Some i → i ≤ nodes_met n why
fault-met n why i e = by (eqb (number_of why) 5) refl (eqb (number_of why) 7) refl
  where
    by : (x : Bool) → eqb (number_of why) 5 ≡ x → (z : Bool) → eqb (number_of why) 7 ≡ z → i ≤ nodes_met n why
    by true f z h =
        let s : node_of why ≡ i = at_same (sym (rw f) ∙ e) in
        rw f (omega (arith, s))
    by false f true h =
        let s : node_of why ≡ i = at_same (sym (rw (f, h)) ∙ e) in
        rw (f, h) (omega (arith, s))
    by false f false h = absurd (none-at (sym (rw (f, h)) ∙ e))

fault-traced : (walked : ℕ) (q : Placed) (i : ℕ) → (traced_by walked q).fault ≡ Some i → i ≤ (traced_by walked q).nodes
fault-traced walked (holds s) i e = absurd (none-at e)
fault-traced walked (stops why) i e = let s : walked - 1 ≡ i = at_same e in omega (arith, s)

fault-few : (b : Input) (i : ℕ) → (reach_of b).fault ≡ Some i → i ≤ (reach_of b).nodes
fault-few b i = by (settled_of b)
  where
    by : (s : Result ℕ Refusal) → (settled_reach (closed_of b) (visits_of b (passes_of b)) (length b.lists.kinds) s).fault ≡ Some i
        → i ≤ (settled_reach (closed_of b) (visits_of b (passes_of b)) (length b.lists.kinds) s).nodes
    by (Err why) e = fault-met (length b.lists.kinds) why i e
    by (Ok k) e =
        fault-traced (walked_all (closed_of b) (visits_of b (passes_of b))) (placed_all (closed_of b) (visits_of b (passes_of b))) i e

-- ---- the refusal's line

pub refused-line : (why : Refusal) → refused_text why ≡ line (ascii "refused") (number_of why ∷ place_numbers (place_of why))
refused-line why = by (place_of why)
  where
    by : (p : Place) → line_of (ascii "refused") (made.number (number_of why) ∷ place_cells p) ≡ line (ascii "refused") (number_of why ∷ place_numbers p)
    by (One p) = numbers-line (ascii "refused") (number_of why ∷ p ∷ [])
    by (Two p q) = numbers-line (ascii "refused") (number_of why ∷ p ∷ q ∷ [])

pub refused-meets : (why : Refusal) → Line (ascii "refused") (number_of why ∷ place_numbers (place_of why)) (refused_text why)
refused-meets why = subst (Line (ascii "refused") _) (sym (refused-line why)) (line-meets (ascii "refused") _)

pub verdict-meets : (v : Verdict) (node passes count : ℕ) (lost : List Lost) → Ends (ToldBy v node passes count lost) (verdict_text v)
verdict-meets Accepted node passes count lost = says.accepted refl refl
verdict-meets (Err why) node passes count lost =
    either (ltb (number_of why) 5)
    (λ t. says.refused (rw t (number-some why)) (rw t (numbers-meet why)) (refused-meets why))
    (λ t. says.stopped (rw t) (rw t (number-some why)) (rw t (numbers-meet why)) (refused-meets why))

module _ (g : Given) (typed : Typed g) (old : Lent) (places : Places old) where
  abbrev b : Input
  b = input_of g typed

  abbrev p : Program
  p = walked g (table g)

  -- where a node is shown or at fault, a pass has run
  nodes-ran : (i : ℕ) → i < (reach_of b).nodes → passes_of b ≡ 0 → ⊥
  nodes-ran i h none = let e = ap (λ (x : Reach). x.nodes) (none-run b none) in omega (arith, h, e)

  fault-ran : (i : ℕ) → (reach_of b).fault ≡ Some i → passes_of b ≡ 0 → ⊥
  fault-ran i f none = none-at (sym (ap (λ (x : Reach). x.fault) (none-run b none)) ∙ f)

  -- ---- a node

  module _ (i : ℕ) (h : i < (reach_of b).nodes) where
    ck : Checked (table g) (listed g) g.fill
    ck = ran-checked b (nodes-ran i h)

    is : Shown g (table g)
    is = shown g typed ck.table

    abbrev now : ℕ
    now = min (passes_of b) g.rows - 1

    before : Goes g (table g) is ck now i
    before j l = (shown-sees b).walks j (omega (arith, h))

    -- its bank and its position, in the row of the last pass that ran
    abbrev k : ℕ
    k = bank_shown p (row_of_pass (listed g) (passes_of b)) i

    abbrev q : ℕ
    q = position_shown p (row_of_pass (listed g) (passes_of b)) i

    abbrev def : Bankdef
    def = bank_record (table g) k

    tells : Tells g k def
    tells = is.tells k (in_table g (table g) is ck now i (let few = (shown-sees b).few in omega (arith, h, few)) before)

    pub address-column : (c : Cell) × Whole (start g k +ℤ pos (q / unit g k)) c × (as_made c ≡ address_cell (address_of def q i))
    address-column =
        let w = whole_meets (start g k +ℤ pos (q / unit g k)) in
        let there : units_from def q ≡ start g k +ℤ pos (q / unit g k) =
        ap (λ (z : ℤ). z +ℤ pos (q / def.unit)) tells.of-start ∙ ap (λ (u : ℕ). start g k +ℤ pos (q / u)) tells.of-unit in
        (w.0, w.1, w.2 ∙ sym (ap address_cell (address-when def q i tells.told) ∙ ap signed there))

  -- where the cells of a node's columns are the same, its records are
  pub columns-same : (i k q : ℕ) {e e' : ℕ} (a o : Cell) {a' o' : made.Cell} → as_made a ≡ a' → as_made o ≡ o' → e' ≡ e
      → map as_made (says.number i ∷ says.number (kind g i) ∷ says.number k ∷ says.number q ∷ a ∷ o ∷ says.number e ∷ [])
      ≡ made.number i ∷ made.number (kind g i) ∷ made.number k ∷ made.number q ∷ a' ∷ o' ∷ made.number e' ∷ []
  columns-same i k q a o ea eo ee = rw (ea, eo, ee)

  -- ---- the node at fault

  fault-listed : (i : ℕ) → (map_of b).fault ≡ Some i → i ≡ no_node → ⊥
  unfolding map_of
  fault-listed i e same =
      let c = ran-checked b (fault-ran i e) in
      let few = (accepted-lists (table g).len (listed g) g.fill c.lists).few in
      omega (arith, fault-few b i e, (shown-sees b).few, few, same)

  fault-by : (f : Option ℕ) → ((i : ℕ) → f ≡ Some i → i ≡ no_node → ⊥) → FaultLine (node_told f) (fault_text f)
  fault-by None h = says.no-fault refl
  fault-by (Some i) h = says.at-fault (h i refl) (numbers-meet-line (ascii "fault") (i ∷ []))

  pub fault-meets : FaultLine (node_told (map_of b).fault) (fault_text (map_of b).fault)
  fault-meets = fault-by (map_of b).fault fault-listed
