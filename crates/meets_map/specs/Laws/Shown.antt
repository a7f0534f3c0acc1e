-- What the contract of `dk_map` tells of a layout that has passed its checks: the entries of the nodes that are shown and the sums are the sentences' own, and
-- what stands past them is as it was.
use Rattle.std.specs.Prelude.{◌≡◌, refl, true, ◌&&◌, List, ℕ, ◌-◌, ◌≤◌, ◌<◌, min, leb, length, get_or, drop}
use Rattle.std.proofs.Common.{sym, ap, subst, ◌∙◌, arith, leb-true, le-leb, length-append, length-drop}
use Rattle.prelude.specs.Laws.Bools.{either, both, clash}
use Rattle.bitvec.specs.Lists.{list_of}
use Rattle.bitvec.specs.Laws.Lists.{length-list_of}
use Rattle.iter.specs.declared.Lost.{Lost}
use Rattle.nodes.specs.Kinds.{size_of}
use Rattle.nodes.specs.Theorems.Sound.{accepted-lists}
use Rattle.resolver.specs.Layout.{Checked}
use Rattle.output.specs.Output.{Input, passes_of}
use Rattle.build_visits.specs.Visits.{seen_pos}
use Rattle.build_map.specs.Map as map
use Rattle.build_map.specs.Map.{reach_of, map_of, paddings_to, shown, left_by, bank_shown, position_shown, output_shown, size_shown}
use Rattle.build_map.specs.Laws.Entries.{shown-at, shown-past}
use Rattle.build_map.specs.Theorems.Reached.{shown-sees}
use Rattle.build_map.specs.declared.Reach.{Reach}
use Rattle.c_model.specs.Maps.{MapTold}
use Rattle.c_answers.specs.Maps.{ToldBy, node_told}
use Rattle.c_answers.specs.declared.DkMap.{DkMap}
use Rattle.says.specs.Build.{Given, nodes, kind, Sees}
use Rattle.meets_sentences.specs.Typed.{Typed}
use Rattle.meets_build.specs.Laws.Contract.{input_of}
use Rattle.meets_build.specs.Laws.Left.{word-told}
use Rattle.meets_build.specs.Laws.Offers.{sums-meet}
use Rattle.meets_build.specs.Laws.Shown.{Shown, listed, walked, row_no, node_no, number_is}
use Rattle.meets_build.specs.Laws.Table.{table}
use Rattle.meets_build.specs.Laws.Walk.{Goes, bank_no, sees-seen, tells-here}
use Rattle.says.specs.Map as m
use Rattle.says.specs.Map.{Lent, Outcome, Bits, Entry, Left, Shows}
use Rattle.meets_map.specs.Places.{Places}

-- what is lent, in the definitions
abbrev pub lent_of : Lent → map.Lent
lent_of l = map.lent l.banks l.positions l.outputs l.sizes

shown-long : (n : ℕ) (f : ℕ → ℕ) (old : List ℕ) → n ≤ length old → length (shown n f old) ≡ length old
shown-long n f old h =
    let e = length-append (list_of n f) (drop n old) in
    omega (arith, length-list_of n f, length-drop n old)

module _ (g : Given) (typed : Typed g) (old : Lent) (r : DkMap) (new : Lent) (told : MapTold (input_of g typed) (lent_of old) r (lent_of new)) where
  abbrev b : Input
  b = input_of g typed

  -- the outcome of the call
  abbrev pub outcome : Outcome
  outcome = record { answer = r; lent = new }

  -- the row of the last pass that ran
  abbrev pub row_now : ℕ
  row_now = min (passes_of b) g.rows - 1

  abbrev sums : ℕ → List Lost
  sums c = paddings_to (walked g (table g)) (row_no g (table g) row_now) c

  pub answer-is : r ≡ ToldBy (reach_of b).verdict (node_told (reach_of b).fault) (passes_of b) (reach_of b).nodes (sums (reach_of b).nodes)
  unfolding map_of
  answer-is = told.answer

  pub left_is : lent_of new ≡ left_by (walked g (table g)) (row_no g (table g) row_now) (reach_of b).nodes (lent_of old)
  unfolding map_of
  left_is = told.maps.left

  module _ (places : Places old) (is : Shown g (table g)) (ck : Checked (table g) (listed g) g.fill) where
    abbrev c : ℕ
    c = (reach_of b).nodes

    few : c ≤ nodes g
    few = (shown-sees b).few

    goes : Goes g (table g) is ck row_now c
    goes = (shown-sees b).walks

    -- ---- a node that is shown

    module _ (i : ℕ) (h : i < c) where
      listed-i : i < nodes g
      listed-i = omega (arith, few)

      before : Goes g (table g) is ck row_now i
      before j l = goes j (omega arith)

      bits_are : Bits g row_now i (size_of (node_no g (table g) row_now i))
      bits_are =
          either (leb 4 (kind g i) && leb (kind g i) 7)
          (λ t.
          let x = both (leb 4 (kind g i)) (leb (kind g i) 7) t in
          rw t (m.takes (leb-true 4 (kind g i) x.0) (leb-true (kind g i) 7 x.1) (number_is g (table g) row_now i listed-i)))
          (λ t. rw t (m.none (λ k. clash (taken k.0 k.1) t)))
        where
          taken : 4 ≤ kind g i → kind g i ≤ 7 → (leb 4 (kind g i) && leb (kind g i) 7) ≡ true
          taken low high = rw (le-leb 4 (kind g i) low, le-leb (kind g i) 7 high)

      abbrev position : ℕ
      position = position_shown (walked g (table g)) (row_no g (table g) row_now) i

      sees-it : Sees g row_now i (bank_no g (table g) is ck row_now i) position (goes i h).0.known
      sees-it =
          subst (λ (p : ℕ). Sees g row_now i (bank_no g (table g) is ck row_now i) p (goes i h).0.known)
          (sym (ap (λ x. (seen_pos x).position) (goes i h).1))
          (sees-seen g (table g) is ck row_now i listed-i before (goes i h).0 (goes i h).1)

      entry-meets : Entry g row_now i (bank_shown (walked g (table g)) (row_no g (table g) row_now) i) position
          (output_shown (walked g (table g)) (row_no g (table g) row_now) i) (size_shown (walked g (table g)) (row_no g (table g) row_now) i)
      entry-meets = m.entry sees-it (word-told g (tells-here g (table g) is ck row_now i listed-i before) position _ refl) bits_are

    -- ---- all of them

    room : c ≤ 4096
    room = omega (arith, few, (accepted-lists (table g).len (listed g) g.fill ck.lists).few)

    abbrev with-old : List ℕ → (ℕ → ℕ) → List ℕ
    with-old l f = shown c f l

    at-list : (x l : List ℕ) (f : ℕ → ℕ) → x ≡ with-old l f → (i : ℕ) → i < c → f i ≡ get_or x i 0
    at-list x l f e i h = sym (ap (λ (y : List ℕ). get_or y i 0) e ∙ shown-at c f l i h)

    past-list : (x l : List ℕ) (f : ℕ → ℕ) → x ≡ with-old l f → (i : ℕ) → c ≤ i → get_or x i 0 ≡ get_or l i 0
    past-list x l f e i h = ap (λ (y : List ℕ). get_or y i 0) e ∙ shown-past c f l i h

    long-list : (x l : List ℕ) (f : ℕ → ℕ) → x ≡ with-old l f → length l ≡ 4096 → length x ≡ length l
    long-list x l f e h = ap length e ∙ shown-long c f l (omega (arith, room))

    abbrev bank_of : ℕ → ℕ
    bank_of = bank_shown (walked g (table g)) (row_no g (table g) row_now)

    abbrev position_of : ℕ → ℕ
    position_of = position_shown (walked g (table g)) (row_no g (table g) row_now)

    abbrev output_of : ℕ → ℕ
    output_of = output_shown (walked g (table g)) (row_no g (table g) row_now)

    abbrev bits_of : ℕ → ℕ
    bits_of = size_shown (walked g (table g)) (row_no g (table g) row_now)

    banks-are : new.banks ≡ with-old old.banks bank_of
    banks-are = ap (λ (l : map.Lent). l.banks) left_is

    positions-are : new.positions ≡ with-old old.positions position_of
    positions-are = ap (λ (l : map.Lent). l.positions) left_is

    outputs-are : new.outputs ≡ with-old old.outputs output_of
    outputs-are = ap (λ (l : map.Lent). l.outputs) left_is

    sizes-are : new.sizes ≡ with-old old.sizes bits_of
    sizes-are = ap (λ (l : map.Lent). l.sizes) left_is

    same-entry : (i : ℕ) {a p o s a' p' o' s' : ℕ} → a ≡ a' → p ≡ p' → o ≡ o' → s ≡ s' → Entry g row_now i a p o s → Entry g row_now i a' p' o' s'
    same-entry i e f k l x = rw (sym e, sym f, sym k, sym l) x

    left_meets : Left g old row_now c new
    left_meets =
        record {
          as_long = (
            long-list new.banks old.banks bank_of banks-are places.banks,
            long-list new.positions old.positions position_of positions-are places.positions,
            long-list new.outputs old.outputs output_of outputs-are places.outputs,
            long-list new.sizes old.sizes bits_of sizes-are places.sizes,
          );
          shown = λ i h.
              same-entry i (at-list new.banks old.banks bank_of banks-are i h) (at-list new.positions old.positions position_of positions-are i h)
              (at-list new.outputs old.outputs output_of outputs-are i h) (at-list new.sizes old.sizes bits_of sizes-are i h) (entry-meets i h);
          rest = λ i h. (
            past-list new.banks old.banks bank_of banks-are i h,
            past-list new.positions old.positions position_of positions-are i h,
            past-list new.outputs old.outputs output_of outputs-are i h,
            past-list new.sizes old.sizes bits_of sizes-are i h,
          );
        }

    -- The map shows as many nodes as the reach says, with the sums that these lose, whatever it tells of the rest.
    pub shows-of : (x : Reach) → reach_of b ≡ x → (stopped place second node : ℕ)
        → ((n count : ℕ) (lost : List Lost)
        → ToldBy x.verdict (node_told x.fault) n count lost
        ≡ record { refusal = 0; stopped = stopped; place = place; second = second; node = node; passes = n; nodes = count; padding = lost })
        → Shows g old (passes_of b) row_now x.nodes stopped place second node outcome
    shows-of x e stopped place second node f =
        subst (λ (n : ℕ). Shows g old (passes_of b) row_now n stopped place second node outcome) (ap (λ (y : Reach). y.nodes) e)
        (subst (λ (a : DkMap). Shows g old (passes_of b) row_now c stopped place second node (record { answer = a; lent = new }))
        (sym (answer-is ∙ ap (λ (y : Reach). ToldBy y.verdict (node_told y.fault) (passes_of b) c (sums c)) e ∙ f (passes_of b) c (sums c)))
        (m.shows (sums-meet g (table g) is ck row_now c few goes) left_meets))
