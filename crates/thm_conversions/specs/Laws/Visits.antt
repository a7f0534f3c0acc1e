-- What the build sees of the two rows: behind the switch each visit is the other's, one number higher and in bank 1. So the items and the spans are the
-- same, and what is placed goes alike.
use Rattle.std.specs.Prelude.{ℕ, zero, suc, ◌+◌, ◌≡◌, Bool, true, false, ◌&&◌, List, [], ◌∷◌, ◌++◌, eqb, ℤ, length, Result, Ok, Err, Option, None, Some}
use Rattle.std.proofs.Math.Path.{refl}
use Rattle.std.proofs.Common.{sym, ap, ◌∙◌, eqb-true}
use Rattle.prelude.specs.Laws.Bools.{either}
use Rattle.prelude.specs.Pick.{pick}
use Rattle.prelude.specs.declared.Refusal.TheVariants.{PastBank, NoOutput, Overlap, StoreFull}
use Rattle.prelude.specs.declared.Refusal.{Refusal}
use Rattle.prelude.specs.Verdict.{Verdict, Accepted}
use Rattle.bankdef.specs.declared.Bankdef.{Bankdef}
use Rattle.bankdef.specs.declared.Bankdefs.{Bankdefs}
use Rattle.iter.specs.Address.{address_of, output_position}
use Rattle.iter.specs.Distance.{tellable}
use Rattle.iter.specs.Step.{start_of, seen_of, moved_on, advanced_of, seen_skips, advance_skips, bank_after, step_of}
use Rattle.nodes.specs.Kinds.{size_of}
use Rattle.nodes.specs.declared.Node.{Node}
use Rattle.iter.specs.declared.Pos.{Pos}
use Rattle.iter.specs.declared.Walk.{Walk}
use Rattle.nodes.specs.Lists.{Row, first_of}
use Rattle.resolver.specs.Once.{Program, node, bank_of, step_at, walk_to}
use Rattle.overlap_checker.specs.declared.Entry.{Entry}
use Rattle.overlap_checker.specs.Offers.{lacks_room}
use Rattle.overlap_checker.specs.State.{State, empty_state, meets, tries, named_in, answer}
use Rattle.overlap_checker.specs.Folds.{state_after}
use Rattle.build_visits.specs.Items.{is_written, standing, item_at, item_of, items_of}
use Rattle.build_plan.specs.Placing.{ends_past, lacks_output, is_placed, is_offered, bits_at, offer_at}
use Rattle.build_plan.specs.Placing.{offer_of, checked, answered, tried, placing, verdict_seen, verdict_on}
use Rattle.build_plan.specs.Placing.{Placed, holds, stops, placed_if, placed_next, placed_from, placed_all}
use Rattle.build_plan.specs.Laws.PlacingLaws.{placed-last}
use Rattle.build_visits.specs.Spans.{Span, is_span, address_told, span_of, spans_of}
use Rattle.build_visits.specs.Laws.VisitLaws.{visits-none, visits-next, each_next}
use Rattle.build_visits.specs.Visits.{seen_pos, position_of, visit_at, visits_to, visits, each}
use Rattle.build_visits.specs.declared.Visit.{Visit}
use Rattle.thm_conversions.specs.Widened.{shifted}
use Rattle.thm_conversions.specs.Steps.{up}
use Rattle.thm_conversions.specs.Laws.Steps.{shifted_moved}
use Rattle.thm_conversions.specs.Cells.{zeroed}
use Rattle.thm_conversions.specs.Laws.Checks.{shifted_verdict}
use Rattle.thm_conversions.specs.Laws.Walks.{leading, Leads, bank-here, bank-there, record-here, record-there, standing as stand, seen_alike}

-- Two visits that are alike: the one in bank 0, the other in bank 1.
pub record Like (v u : Visit) : Type 0 where
  pub node : u.node ≡ up v.node
  pub first : v.bank ≡ 0
  pub second : u.bank ≡ 1
  pub def : u.def ≡ v.def
  pub seen : u.seen ≡ shifted_moved v.seen
  pub out : u.out ≡ v.out

pos-alike : (m : Result Pos Refusal) → seen_pos (shifted_moved m) ≡ seen_pos m
pos-alike (Ok at) = refl
pos-alike (Err why) = refl

-- ---- what a visit gives

-- a node's operand is the same where it is no switch
standing-alike : (n : Node) (out : Option ℕ) (t : Bool) → (eqb n.kind 1 ≡ true → t ≡ false) → pick t (standing out (up n)) [] ≡ pick t (standing out n) []
standing-alike n None t other = refl
standing-alike n (Some o) t other = either (eqb n.kind 1) (λ e. rw (other e)) (λ e. rw e)

not_written : (n : Node) → eqb n.kind 1 ≡ true → is_written n ≡ false
not_written n e = rw (eqb-true n.kind 1 e)

bits-alike : (n : Node) (out : Option ℕ) → bits_at out (up n) ≡ bits_at out n
bits-alike n None = refl
bits-alike n (Some o) = refl

told-alike : (def : Bankdef) (position i : ℕ) → address_told (address_of def position (suc i)) ≡ address_told (address_of def position i)
unfolding address_of
told-alike def position i = either (tellable def) (λ t. rw t) (λ t. rw t)

abbrev span_with : Node → ℤ → Option ℕ → List Span
span_with n address out = pick (is_span n) (record { address = address; offset = out; size = size_of n } ∷ []) []

module _ {v u : Visit} (like : Like v u) where
  pub item-alike : item_of u ≡ item_of v
  item-alike = law like.node like.out (standing-alike v.node v.out (is_written v.node) (not_written v.node))
    where
      law : {n : Node} {o : Option ℕ} → n ≡ up v.node → o ≡ v.out → item_at (up v.node) v.out ≡ item_at v.node v.out
          → item_at n o ≡ item_at v.node v.out
      law e f x = rw (e, f) x

  pub offer-alike : offer_of u ≡ offer_of v
  offer-alike = law like.node like.out (ap (λ (l : List Entry). pick (is_offered v.node) l []) (bits-alike v.node v.out))
    where
      law : {n : Node} {o : Option ℕ} → n ≡ up v.node → o ≡ v.out → offer_at (up v.node) v.out ≡ offer_at v.node v.out
          → offer_at n o ≡ offer_at v.node v.out
      law e f x = rw (e, f) x

  address-alike : address_told (address_of u.def (position_of u) u.node.index) ≡ address_told (address_of v.def (position_of v) v.node.index)
  address-alike =
      law like.def (ap seen_pos like.seen ∙ pos-alike v.seen) like.node ∙ told-alike v.def (position_of v) v.node.index
    where
      law : {d : Bankdef} {p : Pos} {n : Node} → d ≡ v.def → p ≡ seen_pos v.seen → n ≡ up v.node
          → address_told (address_of d p.position n.index) ≡ address_told (address_of v.def (position_of v) (suc v.node.index))
      law e f g = rw (e, f, g)

  pub span-alike : span_of u ≡ span_of v
  span-alike = law like.node address-alike like.out
    where
      law : {n : Node} {a b : ℤ} {o : Option ℕ} → n ≡ up v.node → a ≡ b → o ≡ v.out → span_with n a o ≡ span_with v.node b v.out
      law e f g = rw (e, f, g)

-- ---- what is placed

pick-verdict : (t : Bool) (x y : Verdict) → pick t (shifted_verdict x) (shifted_verdict y) ≡ shifted_verdict (pick t x y)
pick-verdict true x y = refl
pick-verdict false x y = refl

first-shifts : (x y : Verdict) → first_of (shifted_verdict x) (shifted_verdict y) ≡ shifted_verdict (first_of x y)
first-shifts Accepted y = refl
first-shifts (Err why) y = refl

answer-shifts : (s : State) (e : Entry) (i : ℕ) → answer s e (suc i) ≡ shifted_verdict (answer s e i)
unfolding tries
answer-shifts s e i = go (meets s e) (lacks_room (length s.intervals) (length s.marks) e.size)
  where
    go : (a b : Bool)
        → pick a (Err (Overlap (named_in s e).position (named_in s e).size)) (pick b (Err (StoreFull (suc i))) Accepted)
        ≡ shifted_verdict (pick a (Err (Overlap (named_in s e).position (named_in s e).size)) (pick b (Err (StoreFull i)) Accepted))
    go true b = refl
    go false true = refl
    go false false = refl

answered-shifts : (s : State) (l : List Entry) (i : ℕ) → answered s (suc i) l ≡ shifted_verdict (answered s i l)
answered-shifts s [] i = refl
answered-shifts s (e ∷ none) i = answer-shifts s e i

checked-shifts : (def : Bankdef) (n : Node) (at : Pos) (out : Option ℕ) → checked true 1 def (up n) at out ≡ shifted_verdict (checked false 0 def n at out)
unfolding checked
checked-shifts def n at out = go (ends_past def.size (at.position + size_of n)) (is_written n && lacks_output out)
  where
    go : (a b : Bool)
        → pick a (Err (PastBank (suc n.index))) (pick b (Err (NoOutput (suc n.index))) Accepted)
        ≡ shifted_verdict (pick a (Err (PastBank n.index)) (pick b (Err (NoOutput n.index)) Accepted))
    go true b = refl
    go false true = refl
    go false false = refl

placing-shifts : (def : Bankdef) (s : State) (n : Node) (at : Pos) (out : Option ℕ)
    → placing true 1 def s (up n) at out ≡ shifted_verdict (placing false 0 def s n at out)
placing-shifts def s n at out =
    ap (λ (v : Verdict). pick (is_placed n) v Accepted)
    (law (checked-shifts def n at out)
    (ap (answered s (suc n.index)) (ap (λ (l : List Entry). pick (is_offered n) l []) (bits-alike n out)) ∙ answered-shifts s (offer_at n out) n.index)
    ∙ first-shifts (checked false 0 def n at out) (answered s n.index (offer_at n out)))
    ∙ pick-verdict (is_placed n) (tried false 0 def s n at out) Accepted
  where
    law : {a b c d : Verdict} → a ≡ b → c ≡ d → first_of a c ≡ first_of b d
    law e f = rw (e, f)

seen-verdict : (def : Bankdef) (s : State) (n : Node) (out : Option ℕ) (m : Result Pos Refusal)
    → verdict_seen true 1 def s (up n) out (shifted_moved m) ≡ shifted_verdict (verdict_seen false 0 def s n out m)
seen-verdict def s n out (Ok at) = placing-shifts def s n at out
seen-verdict def s n out (Err why) = refl

pub verdict-shifts : {v u : Visit} → Like v u → (s : State) → verdict_on true s u ≡ shifted_verdict (verdict_on false s v)
verdict-shifts {v} {u} like s =
    law like.first like.second like.def like.node like.out like.seen (seen-verdict v.def s v.node v.out v.seen)
  where
    law : {b c : ℕ} {d : Bankdef} {n : Node} {o : Option ℕ} {m : Result Pos Refusal} → b ≡ 0 → c ≡ 1 → d ≡ v.def → n ≡ up v.node → o ≡ v.out
        → m ≡ shifted_moved v.seen
        → verdict_seen true 1 v.def s (up v.node) v.out (shifted_moved v.seen)
        ≡ shifted_verdict (verdict_seen false 0 v.def s v.node v.out v.seen)
        → verdict_seen true c d s n o m ≡ shifted_verdict (verdict_seen false b v.def s v.node v.out v.seen)
    law e f g h i j x = rw (e, f, g, h, i, j) x

abbrev pub shifted_placed : Placed → Placed
shifted_placed (holds s) = holds s
shifted_placed (stops why) = stops (shifted why)

next-shifts : {v u : Visit} → Like v u → (q : Placed) → placed_next true u (shifted_placed q) ≡ shifted_placed (placed_next false v q)
next-shifts like (stops why) = refl
next-shifts {v} {u} like (holds s) =
    law (verdict-shifts like s) (offer-alike like) ∙ go (verdict_on false s v) (state_after s (offer_of v))
  where
    law : {x y : Verdict} {k l : List Entry} → x ≡ y → k ≡ l → placed_if x (state_after s k) ≡ placed_if y (state_after s l)
    law e f = rw (e, f)

    go : (x : Verdict) (t : State) → placed_if (shifted_verdict x) t ≡ shifted_placed (placed_if x t)
    go Accepted t = refl
    go (Err why) t = refl

-- ---- the rows

module _ (p : Program) (table : Bankdefs) (leads : Leads p table) (row : Row) where
  abbrev there : Program
  there = leading table p

  pub like : (i : ℕ) → Like (visit_at p row i) (visit_at there (zeroed row) (suc i))
  like i =
      let s = stand p table leads row i in
      let d = ap (λ (w : Walk). bank_of p.banks w (node p row i)) s.first ∙ record-here p table leads row i s.at s.lost in
      let e = ap (λ (w : Walk). bank_of table w (node there (zeroed row) (suc i))) s.second ∙ record-there p table leads row i s.at s.lost in
      record {
        node = leads.nodes row i;
        first = ap (λ (w : Walk). bank_after w.bank (node p row i)) s.first ∙ bank-here p table leads row i;
        second = ap (λ (w : Walk). bank_after w.bank (node there (zeroed row) (suc i))) s.second ∙ bank-there p table leads row i;
        def = e ∙ sym d;
        seen = seen_alike p table leads row i;
        out = outs (e ∙ sym d) (ap seen_pos (seen_alike p table leads row i) ∙ pos-alike (step_at p row (walk_to p row i) i).seen);
      }
    where
      outs : {d e : Bankdef} {q r : Pos} → d ≡ e → q ≡ r → output_position d q.position ≡ output_position e r.position
      outs a b = rw (a, b)

  -- the switch itself gives nothing
  module _ {X : Type 0} (f : Visit → List X) (nothing : f (visit_at there (zeroed row) 0) ≡ []) (same : (v u : Visit) → Like v u → f u ≡ f v) where
    none : each f [] ≡ []
    unfolding each
    none = refl

    each_to : (i : ℕ) → each f (visits_to there (zeroed row) (suc i)) ≡ each f (visits_to p row i)
    each_to zero =
        each_next there (zeroed row) f 0
        ∙ law (ap (each f) (visits-none there (zeroed row)) ∙ none) nothing
        ∙ sym (ap (each f) (visits-none p row) ∙ none)
      where
        law : {a b : List X} → a ≡ [] → b ≡ [] → a ++ b ≡ []
        law e g = rw (e, g)
    each_to (suc i) = each_next there (zeroed row) f (suc i) ∙ law (each_to i) (same (visit_at p row i) (visit_at there (zeroed row) (suc i)) (like i))
        ∙ sym (each_next p row f i)
      where
        law : {a b c d : List X} → a ≡ c → b ≡ d → a ++ b ≡ c ++ d
        law e g = rw (e, g)

  no_item : item_of (visit_at there (zeroed row) 0) ≡ []
  no_item = refl

  no_span : span_of (visit_at there (zeroed row) 0) ≡ []
  no_span = refl

  -- The written items are the same.
  pub items-same : items_of (visits there (zeroed row)) ≡ items_of (visits p row)
  items-same = each_to item_of no_item (λ v u l. item-alike l) (length p.kinds)

  -- The spans are the same: addresses, offsets and sizes.
  pub spans-same : spans_of (visits there (zeroed row)) ≡ spans_of (visits p row)
  spans-same = each_to span_of no_span (λ v u l. span-alike l) (length p.kinds)

  switch-placed : placed_all true (visit_at there (zeroed row) 0 ∷ []) ≡ holds empty_state
  unfolding placed_from walk_to start_of step_of seen_of moved_on advanced_of seen_skips advance_skips state_after
  switch-placed = refl

  none-placed : shifted_placed (placed_all false []) ≡ holds empty_state
  unfolding placed_from
  none-placed = refl

  placed-to : (i : ℕ) → placed_all true (visits_to there (zeroed row) (suc i)) ≡ shifted_placed (placed_all false (visits_to p row i))
  placed-to zero =
      ap (placed_all true)
      (visits-next there (zeroed row) 0 ∙ ap (λ (l : List Visit). l ++ visit_at there (zeroed row) 0 ∷ []) (visits-none there (zeroed row)))
      ∙ switch-placed ∙ sym (ap (λ (l : List Visit). shifted_placed (placed_all false l)) (visits-none p row) ∙ none-placed)
  placed-to (suc i) =
      ap (placed_all true) (visits-next there (zeroed row) (suc i))
      ∙ placed-last true (holds empty_state) (visits_to there (zeroed row) (suc i)) (visit_at there (zeroed row) (suc i))
      ∙ ap (placed_next true (visit_at there (zeroed row) (suc i))) (placed-to i)
      ∙ next-shifts (like i) (placed_all false (visits_to p row i))
      ∙ ap shifted_placed (sym (placed-last false (holds empty_state) (visits_to p row i) (visit_at p row i)) ∙ ap (placed_all false) (sym (visits-next p row i)))

  -- What is placed is the same, or refused at node and node + 1; never 9.
  pub placed-shifts : placed_all true (visits there (zeroed row)) ≡ shifted_placed (placed_all false (visits p row))
  placed-shifts = placed-to (length p.kinds)
