-- The second walk from node to node: the image, and the three lists of spans.
use Rattle.std.specs.Prelude.{Option, None, Some}
use Prim.Native.Nat.{ℕ, suc, ◌+◌, ◌*◌, ◌<◌, ◌≤◌}
use mathlib.Core.Path.{◌≡◌, refl, sym, ap, subst, ◌∙◌}
use mathlib.Core.Bool.{Bool, true, false}
use mathlib.Core.List.{List, [], ◌∷◌, ◌++◌, map, Memᴰ}
use native.Mathlib.Nat.{le_trans}
use native.Mathlib.Numerals.{add-one}
use native.Mathlib.Omega.{arith}
use borrow.Author.Tests.{le-leb}
use lib.IntN.{ℤ}
use lib.ListN.{length, set, length-map}
use Rattle.prelude.specs.Limits.{max_banks}
use Rattle.prelude.specs.Pick.{pick}
use Rattle.prelude.specs.Laws.Pick.{pick_true}
use Rattle.bitvec.specs.Written.{written, is_written as passes_no_end}
use Rattle.blocks.specs.Offsets.{word_of}
use Rattle.iter.specs.Step.{start_of, bank_after}
use Rattle.nodes.specs.declared.Node.{Node}
use Rattle.iter.specs.declared.Walk.{Walk}
use Rattle.nodes.specs.Lists.{Row}
use Rattle.resolver.specs.Once.{Program, node}
use Rattle.resolver.specs.Laws.Walking.{walks-start}
use Rattle.resolver.specs.Switches.{Switches}
use Rattle.resolver.specs.Walking.{Walks}
use Rattle.build_visits.specs.declared.Visit.{Visit}
use Rattle.build_visits.specs.Sights.{Comes}
use Rattle.build_visits.specs.Visits.{visit_at, visits}
use Rattle.build_visits.specs.Laws.VisitLaws.{visit-member, each_member}
use Rattle.build_visits.specs.Items.{is_written, standing, item_at, item_of, image_of}
use Rattle.build_visits.specs.Laws.ItemLaws.{image-length}
use Rattle.build_visits.specs.Spans.{Span, is_span, span_at, over}
use Rattle.build_visits.specs.Laws.Upto.{items_to, spans_to, image_to, spans-next, image-next as image-step, items-none, spans-none, spans-grow}
use Rattle.build_write.specs.Writes.{Fit, HasRoom}
use Rattle.build_write.proofs.WritingOver.{length-snoc, over-length, over-more}

-- ---- one item

module _ (image values : List ℕ) (n : Node) where
  pub item-none : (out : Option ℕ) → is_written n ≡ false → image ≡ image_of values image (item_at n out)
  unfolding image_of
  item-none out e = rw e

  pub item-nowhere : (out : Option ℕ) → is_written n ≡ true → out ≡ None → image ≡ image_of values image (item_at n out)
  unfolding image_of
  item-nowhere out w e = rw (w, e)

  -- an item that passes no end is written
  pub item-written : {out : Option ℕ} {o : ℕ} {after : List ℕ} → is_written n ≡ true → out ≡ Some o
      → Fit (length values) (length image) (item_at n out)
      → after ≡ pick (passes_no_end image o values n.operand n.number) (written image o values n.operand n.number) image
      → after ≡ image_of values image (item_at n out)
  unfolding image_of
  item-written {o = o} w e fits a =
      let own : Fit (length values) (length image) (standing (Some o) n) = rw (w, e) at fits in
      let (inside, taken) = own _ (Memᴰ.head refl) in
      rw (w, e)
      (rw (le-leb (o + n.number) (8 * length image) inside, le-leb (n.operand + n.number) (8 * length values) taken) at a)

-- ---- the walk before node i

-- what the three lists show of a span
abbrev pub address-at : Span → ℤ
address-at span = span.address

abbrev pub word_at : Span → ℕ
word_at span = word_of span.offset

abbrev pub size-at : Span → ℕ
size-at span = span.size

-- The walk of the row, the image with the items before node i over `blank`, and their spans at the front of the three lists, which held `old₁`, `old₂`
-- and `old₃` and have room for all.
pub record Writing (p : Program) (row : Row) (values blank : List ℕ) (old₁ : List ℤ) (old₂ old₃ : List ℕ) (i : ℕ) (walk : Walk) (count : ℕ)
    (image : List ℕ) (list₁ : List ℤ) (list₂ list₃ : List ℕ) : Type 0 where
  pub room : HasRoom (visits p row) (length values) (length blank) (length old₁) (length old₂) (length old₃)
  pub within : i ≤ length p.kinds
  pub walks : Walks p row i walk
  pub drawn : image ≡ image_to p row values blank i
  pub counts : count ≡ length (spans_to p row i)
  pub first : list₁ ≡ over (map address-at (spans_to p row i)) old₁
  pub second : list₂ ≡ over (map word_at (spans_to p row i)) old₂
  pub third : list₃ ≡ over (map size-at (spans_to p row i)) old₃

module _ (p : Program) (row : Row) where
  image-keeps : (values blank : List ℕ) (i : ℕ) → length (image_to p row values blank i) ≡ length blank
  image-keeps values blank i = image-length values blank (items_to p row i)

  image-start : (values blank : List ℕ) → blank ≡ image_to p row values blank 0
  unfolding image_of
  image-start values blank = ap (image_of values blank) (sym (items-none p row))

  list-start : {A : Type 0} (f : Span → A) (old : List A) → old ≡ over (map f (spans_to p row 0)) old
  list-start f old = rw (spans-none p row)

  span_counts : (i : ℕ) → is_span (node p row i) ≡ true → length (spans_to p row (suc i)) ≡ length (spans_to p row i) + 1
  span_counts i s =
      ap length (spans-next p row i ∙ pick_true (spans_to p row i ++ span_at (visit_at p row i) ∷ []) (spans_to p row i) s)
      ∙ length-snoc (spans_to p row i) (span_at (visit_at p row i))

  -- a list that shows the spans keeps its length
  list_length : {A : Type 0} (f : Span → A) (old : List A) {list : List A} (i n : ℕ) → i ≤ n → length (spans_to p row n) ≤ length old
      → list ≡ over (map f (spans_to p row i)) old → length list ≡ length old
  list_length f old i n h room e =
      ap length e
      ∙ over-length (map f (spans_to p row i)) old (omega (arith, length-map (spans_to p row i) f, spans-grow p row i n h))

  -- ---- node i, as it is met

  module _ (i : ℕ) {v : Visit} (visited : v ≡ visit_at p row i) where
    count_next : {count next : ℕ} → count ≡ length (spans_to p row i) → next ≡ pick (is_span v.node) (count + 1) count
        → next ≡ length (spans_to p row (i + 1))
    count_next before e =
        rw (add-one, e, visited, before)
        (counted (is_span (node p row i)) (spans_to p row i) (span_at (visit_at p row i)) ∙ ap length (sym (spans-next p row i)))
      where
        counted : (b : Bool) (l : List Span) (x : Span) → pick b (length l + 1) (length l) ≡ length (pick b (l ++ x ∷ []) l)
        counted true l x = sym (length-snoc l x)
        counted false l x = refl

    module _ {A : Type 0} (f : Span → A) (old : List A) {list : List A} {count : ℕ} (n : ℕ) (h : i < n)
        (room : length (spans_to p row n) ≤ length old)
        (counts : count ≡ length (spans_to p row i)) (before : list ≡ over (map f (spans_to p row i)) old) where
      span_fits : is_span v.node ≡ true → count < length list
      span_fits s =
          omega (
            arith,
            list_length f old i n (omega arith) room before,
            span_counts i (ap (λ (w : Visit). is_span w.node) (sym visited) ∙ s),
            spans-grow p row (suc i) n h,
          )

      more-fits : length (pick (is_span (node p row i)) (spans_to p row i ++ span_at (visit_at p row i) ∷ []) (spans_to p row i)) ≤ length old
      more-fits = rw (← (spans-next p row i)) (le_trans (spans-grow p row (suc i) n h) room)

      list-next : {after : List A} → after ≡ pick (is_span v.node) (set list count (f (span_at v))) list
          → after ≡ over (map f (spans_to p row (i + 1))) old
      list-next e =
          rw (add-one, e, visited, before, counts)
          (over-more f (is_span (node p row i)) (spans_to p row i) (span_at (visit_at p row i)) old more-fits
          ∙ ap (λ (l : List Span). over (map f l) old) (sym (spans-next p row i)))

  -- ---- the walk

  -- the walk begins
  pub begins : (values blank : List ℕ) (old₁ : List ℤ) (old₂ old₃ : List ℕ) → Switches p.banks.len p.kinds p.operands
      → HasRoom (visits p row) (length values) (length blank) (length old₁) (length old₂) (length old₃) → {walk : Walk} → walk ≡ start_of
      → Writing p row values blank old₁ old₂ old₃ 0 walk 0 blank old₁ old₂ old₃
  begins values blank old₁ old₂ old₃ switches room a =
      record {
        room = room;
        within = omega arith;
        walks = walks-start p switches row a;
        drawn = image-start values blank;
        counts = ap length (sym (spans-none p row));
        first = list-start address-at old₁;
        second = list-start word_at old₂;
        third = list-start size-at old₃;
      }

module _ {p : Program} {row : Row} {values blank : List ℕ} {old₁ : List ℤ} {old₂ old₃ : List ℕ} {i : ℕ} {walk : Walk} {count : ℕ} {image : List ℕ}
    {list₁ : List ℤ} {list₂ list₃ : List ℕ} (g : Writing p row values blank old₁ old₂ old₃ i walk count image list₁ list₂ list₃) where
  -- the loop has come to node i of its row
  pub comes : Switches p.banks.len p.kinds p.operands → length p.banks.defs ≡ max_banks → {n : Node} → n ≡ node p row i
      → {b : ℕ} → b ≡ bank_after walk.bank n → Comes p row i walk b n
  comes switches room met stands = record { switches = switches; room = room; walks = g.walks; met = met; stands = stands }

  pub same-image : length image ≡ length blank
  same-image = ap length g.drawn ∙ image-keeps p row values blank i

  pub same_first : length list₁ ≡ length old₁
  same_first = list_length p row address-at old₁ i (length p.kinds) g.within g.room.first g.first

  pub same_second : length list₂ ≡ length old₂
  same_second = list_length p row word_at old₂ i (length p.kinds) g.within g.room.second g.second

  pub same-third : length list₃ ≡ length old₃
  same-third = list_length p row size-at old₃ i (length p.kinds) g.within g.room.third g.third

  module _ {v : Visit} (visited : v ≡ visit_at p row i) (h : i < length p.kinds) where
    -- there is room for the node's item
    pub item-fits : Fit (length values) (length image) (item_of v)
    item-fits =
        rw (same-image, visited) (λ x m. g.room.items x (each_member item_of (visit-member p row (length p.kinds) i h) m))

    -- and for its span
    pub spans_fit : is_span v.node ≡ true → (count < length list₁) × (count < length list₂) × (count < length list₃)
    spans_fit s = (
      span_fits p row i visited address-at old₁ (length p.kinds) h g.room.first g.counts g.first s,
      span_fits p row i visited word_at old₂ (length p.kinds) h g.room.second g.counts g.second s,
      span_fits p row i visited size-at old₃ (length p.kinds) h g.room.third g.counts g.third s,
    )

    -- a node is written
    pub goes_on : {walk' : Walk} {count' : ℕ} {image' : List ℕ} {list₁' : List ℤ} {list₂' list₃' : List ℕ}
        → Walks p row (i + 1) walk'
        → image' ≡ image_of values image (item_of v)
        → count' ≡ pick (is_span v.node) (count + 1) count
        → list₁' ≡ pick (is_span v.node) (set list₁ count (address-at (span_at v))) list₁
        → list₂' ≡ pick (is_span v.node) (set list₂ count (word_at (span_at v))) list₂
        → list₃' ≡ pick (is_span v.node) (set list₃ count (size-at (span_at v))) list₃
        → Writing p row values blank old₁ old₂ old₃ (i + 1) walk' count' image' list₁' list₂' list₃'
    goes_on walks drawn counts first second third =
        record {
          room = g.room;
          within = omega arith;
          walks = walks;
          drawn = drawn ∙ ap (λ (m : List ℕ). image_of values m (item_of v)) g.drawn
              ∙ ap (λ (w : Visit). image_of values (image_to p row values blank i) (item_of w)) visited
              ∙ rw add-one (sym (image-step p row values blank i));
          counts = count_next p row i visited g.counts counts;
          first = list-next p row i visited address-at old₁ (length p.kinds) h g.room.first g.counts g.first first;
          second = list-next p row i visited word_at old₂ (length p.kinds) h g.room.second g.counts g.second second;
          third = list-next p row i visited size-at old₃ (length p.kinds) h g.room.third g.counts g.third third;
        }

  -- all nodes are
  pub ends : length p.kinds ≤ i → Writing p row values blank old₁ old₂ old₃ (length p.kinds) walk count image list₁ list₂ list₃
  ends b =
      let all : i ≡ length p.kinds = omega (arith, g.within) in
      subst (λ (k : ℕ). Writing p row values blank old₁ old₂ old₃ k walk count image list₁ list₂ list₃) all g
