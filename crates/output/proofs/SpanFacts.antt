-- Theorems about what SpanFacts defines.
use Rattle.std.specs.Prelude.{◌≡◌, true, List, map, ℕ, ◌<◌, eqb, ℤ, pos, length, get_or, take, drop}
use Rattle.std.proofs.Common.{sym, ap, ◌∙◌, ne_eqb, take_at, drop_at}
use Rattle.std.proofs.lemmas.List.{length-map}
use Rattle.prelude.specs.Laws.Bools.{or_else}
use Rattle.prelude.specs.Laws.Pick.{pick_true, pick-false}
use Rattle.iter.specs.Address.{units_from, output_position}
use Rattle.iter.specs.Distance.{tellable}
use Rattle.nodes.specs.Kinds.{is_item, size_of}
use Rattle.nodes.specs.Laws.Kinds.{written-adds, label-adds-none}
use Rattle.blocks.specs.Offsets.{word_of}
use Rattle.blocks.specs.Spans.{spans_of as spans_lent}
use Rattle.blocks.specs.Spans as blocks-spans
use Rattle.blocks.specs.Bits.{InSpan, InBlock, NoSharedBit}
use Rattle.blocks.specs.Theorems.Bits.{blocks-apart}
use Rattle.blocks.specs.Laws.Row.{InARow}
use Rattle.blocks.specs.Theorems.Row.{blocks-in-a-row}
use Rattle.blocks.specs.Walk.{blocks_of}
use Rattle.build_visits.specs.Visits.{position_of}
use Rattle.build_visits.specs.Spans.{Span, is_span, span_at, span_of, over, addresses, words, sizes}
use Rattle.build_plan.specs.Laws.PlacingLaws.{holds-apart, apart-one, each-apart}
use Rattle.output.specs.Output.{Lent}
use Rattle.output.specs.Calls.{Accepted, nodes_in, visit_in, visits_in, spans_in, closed_in}
use Rattle.output.proofs.Calls.{fine, left_is}
use Rattle.output.specs.Laws.SpanFacts.{InShown, lent-apart, shown-at, span-offered, spans-counted, told-address}
use Rattle.output.specs.SpanFacts.{spans_among}

module _ (b : Accepted) where
  addresses-are : b.call.new.addresses ≡ over (addresses (spans_in b.call)) b.call.old.addresses
  addresses-are = ap (λ (l : Lent). l.addresses) (left_is b)

  offsets_are : b.call.new.offsets ≡ over (words (spans_in b.call)) b.call.old.offsets
  offsets_are = ap (λ (l : Lent). l.offsets) (left_is b)

  sizes-are : b.call.new.sizes ≡ over (sizes (spans_in b.call)) b.call.old.sizes
  sizes-are = ap (λ (l : Lent). l.sizes) (left_is b)

  -- There are as many spans as labels and written items.
  pub span-count : b.spans ≡ spans_among b.call (nodes_in b.call)
  span-count = (fine b).count ∙ spans-counted b.call (nodes_in b.call)

  -- "in node order": the span of a node stands behind those of the nodes before it.
  module _ (n : ℕ) (h : n < nodes_in b.call) (s : is_span (visit_in b.call n).node ≡ true) where
    -- "The address is the start plus the whole units in the position", in a bank that addresses can be told of
    pub span-address : tellable (visit_in b.call n).def ≡ true
        → get_or b.call.new.addresses (spans_among b.call n) (pos 0) ≡ units_from (visit_in b.call n).def (position_of (visit_in b.call n))
    span-address t =
        ap (λ (l : List ℤ). get_or l (spans_among b.call n) (pos 0)) addresses-are
        ∙ shown-at b.call (λ (x : Span). x.address) b.call.old.addresses (pos 0) n h s
        ∙ told-address (visit_in b.call n).def (position_of (visit_in b.call n)) n t

    -- "the output position is offset plus position", or none
    pub span-offset : get_or b.call.new.offsets (spans_among b.call n) 0
        ≡ word_of (output_position (visit_in b.call n).def (position_of (visit_in b.call n)))
    span-offset =
        ap (λ (l : List ℕ). get_or l (spans_among b.call n) 0) offsets_are
        ∙ shown-at b.call (λ (x : Span). word_of x.offset) b.call.old.offsets 0 n h s

    span-size : get_or b.call.new.sizes (spans_among b.call n) 0 ≡ size_of (visit_in b.call n).node
    span-size =
        ap (λ (l : List ℕ). get_or l (spans_among b.call n) 0) sizes-are
        ∙ shown-at b.call (λ (x : Span). x.size) b.call.old.sizes 0 n h s

    -- "labels (size 0)", and a written item's number
    pub span-size-label : (visit_in b.call n).node.kind ≡ 2 → get_or b.call.new.sizes (spans_among b.call n) 0 ≡ 0
    span-size-label e = span-size ∙ pick-false (visit_in b.call n).node.number 0 (label-adds-none (visit_in b.call n).node.kind e)

    pub span-size-item : ((visit_in b.call n).node.kind ≡ 2 → ⊥)
        → get_or b.call.new.sizes (spans_among b.call n) 0 ≡ (visit_in b.call n).node.number
    span-size-item e =
        let k = (visit_in b.call n).node.kind in
        let w : is_item k ≡ true = or_else (eqb k 2) (is_item k) (ne_eqb k 2 e) s in
        span-size ∙ pick_true (visit_in b.call n).node.number 0 (written-adds k w)

  -- "lent spans .. keep their old contents past what was written"
  long_as : {A : Type 0} (f : Span → A) → length (map f (spans_in b.call)) ≡ b.spans
  long_as f = length-map (spans_in b.call) f ∙ sym (fine b).count

  pub old-addresses-stay : drop b.spans b.call.new.addresses ≡ drop b.spans b.call.old.addresses
  old-addresses-stay =
      ap (drop b.spans) addresses-are ∙ drop_at (addresses (spans_in b.call)) _ b.spans (long_as (λ (x : Span). x.address))
      ∙ ap (λ (k : ℕ). drop k b.call.old.addresses) (long_as (λ (x : Span). x.address))

  pub old-offsets-stay : drop b.spans b.call.new.offsets ≡ drop b.spans b.call.old.offsets
  old-offsets-stay =
      ap (drop b.spans) offsets_are ∙ drop_at (words (spans_in b.call)) _ b.spans (long_as (λ (x : Span). word_of x.offset))
      ∙ ap (λ (k : ℕ). drop k b.call.old.offsets) (long_as (λ (x : Span). word_of x.offset))

  pub old-sizes-stay : drop b.spans b.call.new.sizes ≡ drop b.spans b.call.old.sizes
  old-sizes-stay =
      ap (drop b.spans) sizes-are ∙ drop_at (sizes (spans_in b.call)) _ b.spans (long_as (λ (x : Span). x.size))
      ∙ ap (λ (k : ℕ). drop k b.call.old.sizes) (long_as (λ (x : Span). x.size))

module _ (b : Accepted) where
  -- the spans that an accepted build leaves in the two lists that make blocks
  abbrev pub spans_left : List blocks-spans.Span
  spans_left = spans_lent (take b.spans b.call.new.offsets) (take b.spans b.call.new.sizes)

  left-words : take b.spans b.call.new.offsets ≡ words (spans_in b.call)
  left-words = ap (take b.spans) (offsets_are b) ∙ take_at (words (spans_in b.call)) _ b.spans (long_as b (λ (x : Span). word_of x.offset))

  left-sizes : take b.spans b.call.new.sizes ≡ sizes (spans_in b.call)
  left-sizes = ap (take b.spans) (sizes-are b) ∙ take_at (sizes (spans_in b.call)) _ b.spans (long_as b (λ (x : Span). x.size))

  -- No two spans of an accepted build share a bit,
  pub spans-share-no-bit : NoSharedBit InSpan spans_left
  spans-share-no-bit =
      rw (left-words, left-sizes)
      (lent-apart (spans_in b.call)
      (each-apart span_of InShown (λ v. apart-one InShown (is_span v.node) (span_at v)) span-offered (visits_in b.call)
      (holds-apart (closed_in b.call) _ (fine b).state (visits_in b.call) (fine b).placed).offered))

  -- so its blocks share none, and each ends at or before the start of every later one.
  pub blocks-share-no-bit : NoSharedBit InBlock (blocks_of spans_left)
  blocks-share-no-bit = blocks-apart spans_left spans-share-no-bit

  pub blocks-stand-in-a-row : InARow (blocks_of spans_left)
  blocks-stand-in-a-row = blocks-in-a-row spans_left spans-share-no-bit
