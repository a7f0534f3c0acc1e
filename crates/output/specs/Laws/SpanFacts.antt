-- Laws that Theorems/SpanFacts rests on.
use Rattle.std.specs.Prelude.{Some, ◌≡◌, Bool, true, false, ◌⊎◌, eqb, get_or, Option, None}
use Rattle.std.proofs.Math.Path.{refl, ap}
use Rattle.std.proofs.Common.{sym, subst, ◌∙◌, ⊎_elim, arith, eqb-true, length-append}
use mathlib.Core.List.{List, [], ◌∷◌, ◌++◌, map, append_assoc, Memᴰ}
use Prim.Native.Nat.{ℕ, zero, suc, ◌+◌, ◌<◌}
use Rattle.std.proofs.Math.ListN.{length}
use Rattle.prelude.specs.Laws.Bools.{or-told}
use Rattle.prelude.specs.Pick.{pick}
use Rattle.prelude.specs.Laws.Pick.{pick_true, pick-false}
use Rattle.iter.specs.Address.{units_from, address_of}
use Rattle.iter.specs.Distance.{tellable}
use Rattle.nodes.specs.Kinds.{size_of}
use Rattle.nodes.specs.Laws.Kinds.{written-adds, label-adds-none}
use Rattle.nodes.specs.declared.Node.{Node}
use Rattle.bankdef.specs.declared.Bankdef.{Bankdef}
use Rattle.overlap_checker.specs.declared.Entry.{Entry}
use Rattle.overlap_checker.specs.Interval.{Covers}
use Rattle.blocks.specs.Offsets.{offset_of, word_of, no_offset}
use Rattle.blocks.specs.Spans.{spans_of as spans_lent}
use Rattle.blocks.specs.Spans as blocks-spans
use Rattle.blocks.specs.Bits.{InPlaced, InSpan, SomeElement, NoSharedBit}
use Rattle.build_visits.specs.declared.Visit.{Visit}
use Rattle.build_visits.specs.Visits.{visits_to}
use Rattle.build_visits.specs.Laws.VisitLaws.{visits-split, each_append, each_next}
use Rattle.build_visits.specs.Items.{is_written}
use Rattle.build_visits.specs.Spans.{Span, is_span, address_told, span_at, span_of, spans_of, over, words, sizes}
use Rattle.build_plan.specs.Placing.{is_offered, bits_at, offer_of}
use Rattle.build_plan.specs.Laws.PlacingLaws.{picked-some}
use Rattle.build_plan.specs.PlacingLaws.{OfferedBit}
use Rattle.output.specs.Calls.{Call, nodes_in, visit_in, visits_before, spans_in, program_in, row_in}
use Rattle.output.specs.SpanFacts.{spans_among}

module _ (c : Call) where
  more : (b : Bool) (l : List Span) (x : Span) → length (l ++ pick b (x ∷ []) []) ≡ pick b (length l + 1) (length l)
  more true l x = length-append l (x ∷ [])
  more false l x = ap length (mathlib.Core.List.append-nil l)

  pub spans-counted : (n : ℕ) → length (spans_of (visits_before c n)) ≡ spans_among c n
  unfolding spans_among visits_to Rattle.build_visits.specs.Visits.each
  spans-counted zero = refl
  spans-counted (suc i) =
      ap length (each_next (program_in c) (row_in c) span_of i)
      ∙ more (is_span (visit_in c i).node) (spans_of (visits_before c i)) (span_at (visit_in c i))
      ∙ ap (λ (k : ℕ). pick (is_span (visit_in c i).node) (k + 1) k) (spans-counted i)

  -- the spans before node n, its own, and those behind it
  spans-around : (n : ℕ) → n < nodes_in c → is_span (visit_in c n).node ≡ true
      → (rest : List Span) × (spans_in c ≡ spans_of (visits_before c n) ++ span_at (visit_in c n) ∷ rest)
  spans-around n h s =
      let (rest, e) = visits-split (program_in c) (row_in c) (suc n) (nodes_in c) h in (
        spans_of rest,
        ap spans_of e
            ∙ each_append span_of (visits_before c (suc n)) rest
            ∙ ap (λ (l : List Span). l ++ spans_of rest)
            (each_next (program_in c) (row_in c) span_of n ∙ ap (λ (l : List Span). spans_of (visits_before c n) ++ l) (pick_true (span_at (visit_in c n) ∷ []) [] s))
            ∙ append_assoc (spans_of (visits_before c n)) (span_at (visit_in c n) ∷ []) (spans_of rest),
      )

shown : {A B : Type 0} (f : B → A) (k : List B) (x : B) (l : List B) (rest : List A) (d : A) → get_or (map f (k ++ x ∷ l) ++ rest) (length k) d ≡ f x
shown f [] x l rest d = refl
shown f (y ∷ k) x l rest d = shown f k x l rest d

-- what a list that shows the spans holds for node n
pub shown-at : {A : Type 0} (c : Call) (f : Span → A) (old : List A) (d : A) (n : ℕ) → n < nodes_in c → is_span (visit_in c n).node ≡ true
    → get_or (over (map f (spans_in c)) old) (spans_among c n) d ≡ f (span_at (visit_in c n))
shown-at c f old d n h s =
    let (rest, e) = spans-around c n h s in
    ap (λ (l : List Span). get_or (over (map f l) old) (spans_among c n) d) e
    ∙ ap (λ (k : ℕ). get_or (over (map f (spans_of (visits_before c n) ++ span_at (visit_in c n) ∷ rest)) old) k d) (sym (spans-counted c n))
    ∙ shown f (spans_of (visits_before c n)) (span_at (visit_in c n)) rest _ d

pub told-address : (def : Bankdef) (position node : ℕ) → tellable def ≡ true → address_told (address_of def position node) ≡ units_from def position
unfolding address_of
told-address def position node t = rw t

-- ---- no two spans share a bit

abbrev pub InShown : ℕ → Span → Type 0
InShown bit x = InPlaced bit x.offset x.size

label-or-written : (n : Node) → is_span n ≡ true → (eqb n.kind 2 ≡ true) ⊎ (is_written n ≡ true)
label-or-written n e = or-told (eqb n.kind 2) (is_written n) e

-- an empty span has no bit
empty-none : (bit : ℕ) (o : Option ℕ) (size : ℕ) → size ≡ 0 → InPlaced bit o size → ⊥
empty-none bit None size e i = i
empty-none bit (Some o) size e i = omega (arith, i.0, i.1)

placed-bits : (bit : ℕ) (out : Option ℕ) (n : Node) → InPlaced bit out n.number → (e : Entry) × Memᴰ e (bits_at out n) × Covers e bit
placed-bits bit None n i = absurd i
placed-bits bit (Some o) n i = (_, mathlib.Core.List.Memᴰ.head refl, i)

offers-written : (v : Visit) {e : Entry} → is_written v.node ≡ true → Memᴰ e (bits_at v.out v.node) → Memᴰ e (offer_of v)
offers-written v {e} w m =
    subst (λ (l : List Entry). Memᴰ e l) (sym (pick_true {b = is_offered v.node} (bits_at v.out v.node) [] (rw w))) m

pub span-offered : (bit : ℕ) (v : Visit) (x : Span) → Memᴰ x (span_of v) → InShown bit x → OfferedBit bit v
span-offered bit v x m i =
    let (s, here) = picked-some (is_span v.node) (span_at v ∷ []) m in
    let own : InPlaced bit v.out (size_of v.node) = subst (λ (y : Span). InShown bit y) (mathlib.Core.List.Memᴰ.eq_of_singleton here) i in
    ⊎_elim
    (λ (label : eqb v.node.kind 2 ≡ true).
    let none = label-adds-none v.node.kind (eqb-true v.node.kind 2 label) in
    absurd (empty-none bit v.out (size_of v.node) (pick-false v.node.number 0 none) own))
    (λ (w : is_written v.node ≡ true).
    let whole : InPlaced bit v.out v.node.number =
    subst (λ (k : ℕ). InPlaced bit v.out k) (pick_true v.node.number 0 (written-adds v.node.kind w)) own in
    let (e, me, c) = placed-bits bit v.out v.node whole in
    (e, offers-written v w me, c))
    (label-or-written v.node s)

-- spans as they are lent, in words
word_back : (bit : ℕ) (o : Option ℕ) (size : ℕ) → InPlaced bit (offset_of (word_of o)) size → InPlaced bit o size
word_back bit None size i = i
word_back bit (Some o) size i = or-told (eqb o no_offset) i
  where
    or-told : (t : Bool) → InPlaced bit (pick t None (Some o)) size → InPlaced bit (Some o) size
    or-told true h = absurd h
    or-told false h = h

lent-some : (bit : ℕ) (l : List Span) → SomeElement (InSpan bit) (spans_lent (words l) (sizes l)) → SomeElement (InShown bit) l
unfolding spans_lent
lent-some bit [] s = absurd (mathlib.Core.List.Memᴰ.not-nil s.1)
lent-some bit (x ∷ l) s =
    ⊎_elim
    (λ (e : s.0 ≡ _). (x, mathlib.Core.List.Memᴰ.head refl, word_back bit x.offset x.size (subst (λ (y : blocks-spans.Span). InSpan bit y) e s.2)))
    (λ (m : Memᴰ s.0 (spans_lent (words l) (sizes l))). let r = lent-some bit l (s.0, m, s.2) in (r.0, mathlib.Core.List.Memᴰ.tail r.1, r.2))
    (mathlib.Core.List.Memᴰ.cases_cons s.1)

pub lent-apart : (l : List Span) → NoSharedBit InShown l → NoSharedBit InSpan (spans_lent (words l) (sizes l))
unfolding spans_lent
lent-apart [] n = tt
lent-apart (x ∷ l) n = (λ bit i s. n.0 bit (word_back bit x.offset x.size i) (lent-some bit l s), lent-apart l n.1)
