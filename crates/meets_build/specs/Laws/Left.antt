-- What an accepted build leaves is what the sentences say: the image's bits, the spans, and everything past them.
use Rattle.std.specs.Prelude.{◌≡◌, refl, Bool, true, false, List, [], ◌∷◌, map, ℕ, zero, suc, ◌+◌, ◌-◌, ◌/◌, ◌≤◌, ◌<◌, eqb, ltb, ℤ, pos, ◌+ℤ◌, length, get_or, drop, Option, None, Some}
use Rattle.std.proofs.Common.{sym, ap, subst, ◌∙◌, arith, eqb-true, ltb-true, ltb-false, length-append, length-drop, get_or-drop}
use Rattle.std.proofs.lemmas.Bool.{eqb-false}
use Rattle.std.proofs.lemmas.List.{length-map}
use Rattle.prelude.specs.Laws.Bools.{either, unlike}
use Rattle.prelude.specs.Pick.{pick}
use Rattle.prelude.specs.Laws.Pick.{pick_true, pick-false}
use Rattle.bankdef.specs.Check.{no_bank, banks_of}
use Rattle.bankdef.specs.FillBits.{FillsBit}
use Rattle.bankdef.specs.declared.Bankdef.{Bankdef}
use Rattle.bitvec.specs.Bits.{bit_at, Bytes}
use Rattle.bitvec.specs.Written.{written}
use Rattle.bitvec.specs.Theorems.Written.{bytes-written}
use Rattle.blocks.specs.Offsets.{word_of}
use Rattle.iter.specs.Address.{out_at, units_from}
use Rattle.iter.specs.Distance.{tellable}
use Rattle.output.specs.Calls.{Call, Accepted, visit_in, nodes_in, visits_before, items_in, spans_in, values_in}
use Rattle.output.proofs.Calls.{blank_in, left_is, fine}
use Rattle.output.proofs.Gaps.{gap-takes-fill-bit, rest-zero-past-length, rest-zero-unfilled, InNoItem}
use Rattle.output.proofs.ItemBits.{image-is, item-own-bit}
use Rattle.output.specs.Output as out
use Rattle.output.specs.Output.{Builds}
use Rattle.output.specs.SpanFacts.{spans_among}
use Rattle.output.specs.Laws.SpanFacts.{spans-counted}
use Rattle.output.proofs.SpanFacts.{span-count, span-address, span-offset, span-size-label, span-size-item}
use Rattle.output.proofs.SpanFacts.{old-addresses-stay, old-offsets-stay, old-sizes-stay}
use Rattle.output.specs.declared.Output.{Output}
use Rattle.output.specs.Built.{done_with}
use Rattle.build_plan.specs.Theorems.Kinds.{span-exactly}
use Rattle.resolver.specs.Layout.{Checked}
use Rattle.build_visits.specs.Laws.ItemLaws.{image-length}
use Rattle.build_visits.specs.Items.{Item, InItem, image_of}
use Rattle.build_visits.specs.Spans.{Span, is_span, over, addresses, words, sizes}
use Rattle.build_visits.specs.Visits.{position_of}
use Rattle.build_visits.specs.declared.Visit.{Visit}
use Rattle.build_write.specs.Laws.Blank.{blank-length, blank-bytes}
use Rattle.says.specs.Build as says
use Rattle.says.specs.Build.{Given, banks, nodes, kind, unit, start, flag, fill_bit, Offset, IsWritten, Offer, Sees, Number, Spans}
use Rattle.says.specs.Words.{Not}
use Rattle.says.specs.Build.{SpanAt, OffsetWord}
use Rattle.says.specs.Build.{Extent, IsSpan, OfItem, InFilled, Left}
use Rattle.meets_build.specs.Laws.Shown.{Shown, Tells, listed, number_is}
use Rattle.meets_sentences.specs.Typed.{Typed}
use Rattle.meets_build.specs.Laws.Table.{table}
use Rattle.meets_build.specs.Laws.Walk.{Goes, tells-here}
use Rattle.meets_build.specs.Laws.Contract.{lent_so, input_of}
use Rattle.meets_build.specs.Laws.AtNode.{call, row_here}
use Rattle.meets_build.specs.Laws.Visited.{sees-visited}
use Rattle.meets_build.specs.Laws.Offers.{spans-meet}
use Rattle.meets_build.specs.Laws.Items.{item_at, item-member, member-item}
use Rattle.meets_build.specs.Laws.Length.{listed-banks}

-- ---- lists

over-long : {A : Type 0} (xs old : List A) → length xs ≤ length old → length (over xs old) ≡ length old
over-long xs old h = let e = length-append xs (drop (length xs) old) in omega (arith, length-drop (length xs) old)

-- lists that are the same from c on
same_from : {A : Type 0} (c : ℕ) (xs ys : List A) (d : A) → drop c xs ≡ drop c ys → (at : ℕ) → c ≤ at → get_or xs at d ≡ get_or ys at d
same_from c xs ys d e at h =
    let there : c + (at - c) ≡ at = omega arith in
    subst (λ (k : ℕ). get_or xs k d ≡ get_or ys k d) there
    (sym (get_or-drop c xs (at - c) d) ∙ ap (λ l. get_or l (at - c) d) e ∙ get_or-drop c ys (at - c) d)

image-bytes : (values blank : List ℕ) (l : List Item) → Bytes blank → Bytes (image_of values blank l)
unfolding image_of
image-bytes values blank [] b = b
image-bytes values blank (x ∷ l) b =
    image-bytes values (written blank x.at values x.from x.size) l (bytes-written blank x.at values x.from x.size)

-- the node of a span, among the first n
abbrev Node : Call → ℕ → ℕ → Type 0
Node c n at = (i : ℕ) × (i < n) × (is_span (visit_in c i).node ≡ true) × (spans_among c i ≡ at)

node_by : (c : Call) (n at : ℕ) → (at < spans_among c n → Node c n at) → (t : Bool) → is_span (visit_in c n).node ≡ t
    → at < pick t (spans_among c n + 1) (spans_among c n) → Node c (suc n) at
node_by c n at before true e l =
    either (ltb at (spans_among c n)) (λ t. let (i, low, s, f) = before (ltb-true at (spans_among c n) t) in (i, omega arith, s, f))
    (λ t. let k = ltb-false at (spans_among c n) t in (n, omega arith, e, omega arith))
node_by c n at before false e l = let (i, low, s, f) = before l in (i, omega arith, s, f)

node-of : (c : Call) (n at : ℕ) → at < spans_among c n → Node c n at
unfolding spans_among
node-of c zero at h = absurd (let b : ⊥ = omega arith in b)
node-of c (suc n) at h = node_by c n at (node-of c n at) (is_span (visit_in c n).node) refl h

-- "the output position is offset plus position", as a word: of a position in a bank
pub word-told : (g : Given) {b : ℕ} {def : Bankdef} → Tells g b def → (p : ℕ) (o : Option ℕ) → def.offset ≡ o → OffsetWord g b p (word_of (out_at o p))
word-told g {b} tells p None e = says.nowhere (λ f. apart (sym e ∙ tells.has-offset (get_or g.bank_offsets b 0) (f, refl)))
  where
    apart : {n : ℕ} → None ≡ Some n → ⊥
    apart e = unlike cc
word-told g tells p (Some o) e = says.at (tells.placed o e)

module _ (g : Given) (typed : Typed g) (shown : Shown g (table g)) (ck : Checked (table g) (listed g) g.fill) (old : out.Lent) (answer : Output)
    (new : out.Lent) (meets : Builds (input_of g typed) old answer new)
    (all : Goes g (table g) shown ck (row_here g typed shown ck old answer new meets) (nodes g))
    (k bits spans : ℕ) (done : answer.build ≡ done_with k bits spans) where
  abbrev a : Accepted
  a = record { call = call g typed shown ck old answer new meets; k = k; bits = bits; spans = spans; done = done }

  abbrev r : ℕ
  r = row_here g typed shown ck old answer new meets

  -- ---- as long as before, and bytes

  few : {A : Type 0} (f : Span → A) → length (map f (spans_in a.call)) ≡ spans
  few f = length-map (spans_in a.call) f ∙ sym (fine a).count

  image-long : length new.image ≡ length old.image
  image-long =
      ap (λ (l : List ℕ). length l) (image-is a) ∙ image-length (values_in a.call) (blank_in a) (items_in a.call)
      ∙ blank-length (banks_of (table g)) bits (length old.image)

  addresses-long : length new.addresses ≡ length old.addresses
  addresses-long =
      ap (λ (x : out.Lent). length x.addresses) (left_is a)
      ∙ over-long (addresses (spans_in a.call)) old.addresses (omega (arith, few (λ (x : Span). x.address), (fine a).long))

  offsets-long : length new.offsets ≡ length old.offsets
  offsets-long =
      ap (λ (x : out.Lent). length x.offsets) (left_is a)
      ∙ over-long (words (spans_in a.call)) old.offsets (omega (arith, few (λ (x : Span). word_of x.offset), (fine a).long))

  sizes-long : length new.sizes ≡ length old.sizes
  sizes-long =
      ap (λ (x : out.Lent). length x.sizes) (left_is a)
      ∙ over-long (sizes (spans_in a.call)) old.sizes (omega (arith, few (λ (x : Span). x.size), (fine a).long))

  bytes_left : Bytes new.image
  bytes_left =
      subst Bytes (sym (image-is a))
      (image-bytes (values_in a.call) (blank_in a) (items_in a.call) (blank-bytes (banks_of (table g)) bits (length old.image)))

  -- ---- the image's bits

  offered-listed : {i x m : ℕ} → Offer g r i x m → i < nodes g
  offered-listed (says.offer h k l s f n) = h

  item-bits : (i x m bit : ℕ) → IsWritten g i → Offer g r i x m → bit < m → bit_at new.image (x + bit) ≡ bit_at g.values (says.operand g i + bit)
  item-bits i x m bit w o h =
      item-own-bit a (item_at x m (says.operand g i)) (item-member g (table g) shown ck r all (offered-listed o) w o) bit h

  in-none : (bit : ℕ) → Not (OfItem g (lent_so old) r bit) → InNoItem a bit
  in-none bit none x m covered =
      let is = member-item g (table g) shown ck r all x m in
      none (is.0, x.at, x.size, is.2.0, is.2.1, covered.0, covered.1)

  tells : (b : ℕ) → b < banks g → Tells g b (get_or (banks_of (table g)) b no_bank)
  tells b h = shown.tells b (omega (arith, shown.count))

  fill-bits : (bit b : ℕ) → Not (OfItem g (lent_so old) r bit) → InFilled g (lent_so old) bits b bit → bit_at new.image bit ≡ fill_bit g b
  fill-bits bit b none (o, m, other, low, (filled, size, offset), first, past, inside) =
      gap-takes-fill-bit a bit (in-none bit none) inside b other (omega (arith, listed-banks g shown ck)) (record {
        fill = (tells b low).has-fill filled;
        bits = m;
        from = o;
        size = (tells b low).has-size m size;
        offset = (tells b low).has-offset o offset;
        first = first;
        past = past;
      }) ∙ (tells b low).of-bit

  zero_bits : (bit : ℕ) → Not (OfItem g (lent_so old) r bit) → ((b : ℕ) → Not (InFilled g (lent_so old) bits b bit)) → bit_at new.image bit ≡ 0
  zero_bits bit none unfilled =
      either (ltb bit bits)
      (λ t. rest-zero-unfilled a bit (in-none bit none) (λ b other there f.
      let low : b < banks g = omega (arith, listed-banks g shown ck) in
      unfilled b (
        f.from,
        f.bits,
        other,
        low,
        ((tells b low).filled f.fill, (tells b low).sized f.bits f.size, (tells b low).placed f.from f.offset),
        f.first,
        f.past,
        ltb-true bit bits t,
      )))
      (λ t. rest-zero-past-length a bit (in-none bit none) (ltb-false bit bits t))

  -- ---- the spans

  module _ (i : ℕ) (h : i < nodes g) (s : is_span (visit_in a.call i).node ≡ true) where
    abbrev v : Visit
    v = visit_in a.call i

    here : Tells g v.bank v.def
    here = tells-here g (table g) shown ck r i h (λ j l. all j (omega arith))

    address_is : get_or new.addresses (spans_among a.call i) (pos 0) ≡ start g v.bank +ℤ pos (position_of v / unit g v.bank)
    address_is =
        span-address a i h s here.told
        ∙ ap (λ (z : ℤ). z +ℤ pos (position_of v / v.def.unit)) here.of-start
        ∙ ap (λ (u : ℕ). start g v.bank +ℤ pos (position_of v / u)) here.of-unit

    word-is : OffsetWord g v.bank (position_of v) (get_or new.offsets (spans_among a.call i) 0)
    word-is = subst (OffsetWord g v.bank (position_of v)) (sym (span-offset a i h s)) (word-told g here (position_of v) v.def.offset refl)

    size_is : Extent g r i (get_or new.sizes (spans_among a.call i) 0)
    size_is =
        either (eqb (kind g i) 2)
        (λ t. let e = eqb-true (kind g i) 2 t in subst (Extent g r i) (sym (span-size-label a i h s e)) (says.label e))
        (λ t.
        let e = eqb-false (kind g i) 2 t in
        subst (Extent g r i) (sym (span-size-item a i h s e)) (says.item e (number_is g (table g) r i h)))

    counted : Spans g i (spans_among a.call i)
    counted = subst (Spans g i) (spans-counted a.call i) (spans-meet g (table g) shown ck r all i)

    span-is : SpanAt g r (spans_among a.call i) (get_or new.addresses (spans_among a.call i) (pos 0)) (get_or new.offsets (spans_among a.call i) 0)
        (get_or new.sizes (spans_among a.call i) 0)
    span-is =
        subst (λ (z : ℤ). SpanAt g r (spans_among a.call i) z (get_or new.offsets (spans_among a.call i) 0)
        (get_or new.sizes (spans_among a.call i) 0))
        (sym address_is)
        (says.span h ((span-exactly v.node).0 s) counted (sees-visited g (table g) shown ck r all i h) size_is word-is)

  span_left : (at : ℕ) → at < spans → SpanAt g r at (get_or new.addresses at (pos 0)) (get_or new.offsets at 0) (get_or new.sizes at 0)
  span_left at h =
      let (i, low, s, e) = node-of a.call (nodes g) at (omega (arith, span-count a)) in
      subst (λ (x : ℕ). SpanAt g r x (get_or new.addresses x (pos 0)) (get_or new.offsets x 0) (get_or new.sizes x 0)) e (span-is i low s)

  -- What an accepted build leaves.
  pub left_meets : Left g (lent_so old) r bits spans (lent_so new)
  left_meets =
      record {
        as_long = (image-long, addresses-long, offsets-long, sizes-long);
        bytes = bytes_left;
        item-bit = item-bits;
        fill-bit = fill-bits;
        zero_bit = zero_bits;
        span = span_left;
        rest = λ at h. (
          same_from spans new.addresses old.addresses (pos 0) (old-addresses-stay a) at h,
          same_from spans new.offsets old.offsets 0 (old-offsets-stay a) at h,
          same_from spans new.sizes old.sizes 0 (old-sizes-stay a) at h,
        );
      }
