-- The first walk from node to node: what a node that is accepted hands on, what one that is refused settles, and the end.
use Rattle.std.specs.Prelude.{Err}
use mathlib.Core.Path.{◌≡◌, refl, sym, ap, subst, ◌∙◌}
use mathlib.Core.Bool.{Bool, true, false}
use mathlib.Core.List.{[], ◌∷◌, ◌++◌}
use Prim.Native.Nat.{ℕ, suc, ◌+◌, ◌≤◌, ◌<◌}
use native.Mathlib.Numerals.{add-one}
use native.Mathlib.Omega.{arith}
use lib.ListN.{length, replicate, length-append, length-replicate}
use Rattle.prelude.specs.Limits.{max_banks, max_offer, max_nodes}
use Rattle.prelude.specs.Pick.{pick}
use Rattle.prelude.specs.declared.Refusal.{Refusal}
use Rattle.prelude.specs.Verdict.{Verdict, Accepted}
use Rattle.iter.specs.Step.{start_of, bank_after}
use Rattle.iter.specs.declared.Walk.{Walk}
use Rattle.nodes.specs.Lists.{Row}
use Rattle.nodes.specs.declared.Node.{Node}
use Rattle.resolver.specs.Once.{Program, node, walk_to}
use Rattle.resolver.specs.Laws.Walking.{walks-start}
use Rattle.resolver.specs.Switches.{Switches}
use Rattle.resolver.specs.Walking.{Walks}
use Rattle.overlap_checker.specs.State.{empty_state}
use Rattle.overlap_checker.specs.Folds.{state_after}
use Rattle.overlap_checker.specs.Lent.{Lent as Store, lent as store, state_in, Sound}
use Rattle.overlap_checker.proofs.GoingLaws.{state-none}
use Rattle.overlap_checker.proofs.Going.{sound_none}
use Rattle.build_visits.specs.declared.Visit.{Visit}
use Rattle.build_visits.specs.Sights.{Comes}
use Rattle.build_visits.specs.Visits.{visit_at, visits_to, visits}
use Rattle.build_visits.specs.Laws.VisitLaws.{visits-none, visits-next, visits-split}
use Rattle.build_visits.specs.Items.{item_of, length_of}
use Rattle.build_visits.specs.Spans.{is_span, span_at}
use Rattle.build_visits.specs.Laws.Upto.{spans_to, length_to, spans-next, length-next, spans-none, items-none}
use Rattle.build_plan.specs.declared.Sums.{Sums}
use Rattle.build_plan.specs.Placing.{Placed, offer_of, verdict_on, holds, stops, placed_if, placed_next, placed_from, placed_all, walked_all}
use Rattle.build_plan.specs.Laws.PlacingLaws.{placed-append, placed-last, stops-stay}
use Rattle.build_plan.specs.Laws.Walked.{stopped-at, all-walked}
use Rattle.build_plan.specs.Steps.{Goes}
use Rattle.build_plan.specs.Plan.{paddings_of, max_end, plan_refused, plan_accepted, plan_by, plan_of}
use Rattle.build_plan.proofs.Carried.{carried}

-- the first n nodes of a row, placed
abbrev placed_to : Program → Row → Bool → ℕ → Placed
placed_to p row closed n = placed_all closed (visits_to p row n)

-- The first walk before node i: the walk of the row, a sound store that holds what is placed so far, the length and the spans so far.
pub record Going (p : Program) (row : Row) (closed : Bool) (fill i : ℕ) (walk : Walk) (s : Store) (sums : Sums) : Type 0 where
  pub within : i ≤ length p.kinds
  pub walks : Walks p row i walk
  pub sound : Sound s
  pub placed : placed_to p row closed i ≡ holds (state_in s)
  pub reaches : sums.length ≡ length_to p row fill i
  pub low : sums.length ≤ max_end
  pub counts : sums.spans ≡ length (spans_to p row i)
  pub few : sums.spans ≤ i

module _ (p : Program) (row : Row) where
  placed-next : (closed : Bool) (i : ℕ) → placed_to p row closed (suc i) ≡ placed_next closed (visit_at p row i) (placed_to p row closed i)
  placed-next closed i = ap (placed_all closed) (visits-next p row i) ∙ placed-last closed _ (visits_to p row i) (visit_at p row i)

  placed-none : (closed : Bool) → placed_to p row closed 0 ≡ holds empty_state
  unfolding placed_from
  placed-none closed = ap (placed_all closed) (visits-none p row)

  -- a refusal stays
  stops-on : (closed : Bool) (i n : ℕ) (why : Refusal) → i ≤ n → placed_to p row closed i ≡ stops why → placed_to p row closed n ≡ stops why
  stops-on closed i n why b e =
      let r = visits-split p row i n b in
      ap (placed_all closed) r.1
      ∙ placed-append closed (holds empty_state) (visits_to p row i) r.0
      ∙ ap (λ (q : Placed). placed_from closed q r.0) e
      ∙ stops-stay closed why r.0

  count_next : (i : ℕ)
      → length (spans_to p row (suc i)) ≡ pick (is_span (visit_at p row i).node) (length (spans_to p row i) + 1) (length (spans_to p row i))
  count_next i = ap length (spans-next p row i) ∙ at-either (is_span (visit_at p row i).node)
    where
      at-either : (b : Bool) → length (pick b (spans_to p row i ++ span_at (visit_at p row i) ∷ []) (spans_to p row i))
          ≡ pick b (length (spans_to p row i) + 1) (length (spans_to p row i))
      at-either true = length-append (spans_to p row i) (span_at (visit_at p row i) ∷ [])
      at-either false = refl

  start-length : (fill : ℕ) → fill ≡ length_to p row fill 0
  unfolding length_of
  start-length fill = ap (length_of fill) (sym (items-none p row))

  -- the walk begins
  pub begins : Switches p.banks.len p.kinds p.operands → (closed : Bool) (fill : ℕ) → fill ≤ max_offer
      → {walk : Walk} → walk ≡ start_of
      → Going p row closed fill 0 walk (store (replicate 512 0) (replicate 512 0) 0 (replicate 512 0) 0) (record { length = fill; spans = 0 })
  begins switches closed fill b a =
      let none = store (replicate 512 0) (replicate 512 0) 0 (replicate 512 0) 0 in
      record {
        within = omega arith;
        walks = walks-start p switches row a;
        sound =
            sound_none none (length-replicate {A = ℕ} 512 0) (length-replicate {A = ℕ} 512 0) (length-replicate {A = ℕ} 512 0) refl refl;
        placed = placed-none closed ∙ ap holds (sym (state-none none refl refl));
        reaches = start-length fill;
        low = omega arith;
        counts = ap length (sym (spans-none p row));
        few = omega arith;
      }

module _ {p : Program} {row : Row} {closed : Bool} {fill i : ℕ} {walk : Walk} {s : Store} {sums : Sums} (g : Going p row closed fill i walk s sums) where
  -- the loop has come to node i of its row
  pub comes : Switches p.banks.len p.kinds p.operands → length p.banks.defs ≡ max_banks → {n : Node} → n ≡ node p row i
      → {b : ℕ} → b ≡ bank_after walk.bank n → Comes p row i walk b n
  comes switches room met stands = record { switches = switches; room = room; walks = g.walks; met = met; stands = stands }

  module _ {v : Visit} (visited : v ≡ visit_at p row i) {r : Verdict} (answer : r ≡ verdict_on closed (state_in s) v) where
    placed-then : placed_to p row closed (suc i) ≡ placed_if r (state_after (state_in s) (offer_of v))
    placed-then =
        placed-next p row closed i
        ∙ ap (placed_next closed (visit_at p row i)) g.placed
        ∙ ap (λ (w : Visit). placed_next closed w (holds (state_in s))) (sym visited)
        ∙ ap (λ (x : Verdict). placed_if x (state_after (state_in s) (offer_of v))) (sym answer)

    -- a refused node settles the plan
    pub settles : (why : Refusal) → i < length p.kinds → r ≡ Err why → plan_refused why ≡ plan_of p row closed fill
    settles why b e =
        sym (ap (plan_by (length_to p row fill (length p.kinds)) (length (spans_to p row (length p.kinds))) (paddings_of p row))
        (stops-on p row closed (suc i) (length p.kinds) why b
        (placed-then ∙ ap (λ (x : Verdict). placed_if x (state_after (state_in s) (offer_of v))) e)))

    -- and is met
    pub met-refused : (why : Refusal) → i < length p.kinds → r ≡ Err why → i + 1 ≡ walked_all closed (visits p row)
    met-refused why b e =
        let next : placed_next closed (visit_at p row i) (holds (state_in s)) ≡ stops why =
        ap (λ (w : Visit). placed_next closed w (holds (state_in s))) (sym visited)
        ∙ ap (λ (x : Verdict). placed_if x (state_after (state_in s) (offer_of v))) (sym answer ∙ e) in
        sym (stopped-at p row closed i (state_in s) why b g.placed next).1

    -- an accepted node hands on
    pub goes_on : i < length p.kinds → r ≡ Accepted → {walk' : Walk} {s' : Store} {sums' : Sums} → Walks p row (i + 1) walk'
        → Goes s (offer_of v) r s'
        → sums'.length ≡ length_of sums.length (item_of v) → sums'.length ≤ max_end
        → sums'.spans ≡ pick (is_span v.node) (sums.spans + 1) sums.spans
        → Going p row closed fill (i + 1) walk' s' sums'
    goes_on b acc walks goes reaches low adds =
        record {
          within = omega arith;
          walks = walks;
          sound = goes.sound;
          placed = rw add-one
              (placed-then ∙ ap (λ (x : Verdict). placed_if x (state_after (state_in s) (offer_of v))) acc ∙ ap holds (sym (goes.state acc)));
          reaches = rw add-one
              (reaches ∙ ap (λ (k : ℕ). length_of k (item_of v)) g.reaches
              ∙ ap (λ (w : Visit). length_of (length_to p row fill i) (item_of w)) visited
              ∙ sym (length-next p row fill i));
          low = low;
          counts = rw add-one
              (adds ∙ ap (λ (k : ℕ). pick (is_span v.node) (k + 1) k) g.counts
              ∙ ap (λ (w : Visit). pick (is_span w.node) (length (spans_to p row i) + 1) (length (spans_to p row i))) visited
              ∙ sym (count_next p row i));
          few = omega (arith, g.few, adds-few (is_span v.node) sums.spans, adds);
        }
      where
        adds-few : (b : Bool) (k : ℕ) → pick b (k + 1) k ≤ k + 1
        adds-few true k = omega arith
        adds-few false k = omega arith

  -- all nodes are placed
  pub ends : length p.kinds ≤ i → length p.kinds ≤ max_nodes
      → plan_accepted sums.length sums.spans walk.lost ≡ plan_of p row closed fill
  ends b few =
      let n = length p.kinds in
      let all : i ≡ n = omega (arith, g.within) in
      let last = subst (λ (k : ℕ). placed_to p row closed k ≡ holds (state_in s)) all g.placed in
      let bits : sums.length ≡ length_to p row fill n = g.reaches ∙ ap (length_to p row fill) all in
      let many : sums.spans ≡ length (spans_to p row n) = g.counts ∙ ap (λ (k : ℕ). length (spans_to p row k)) all in
      let paddings : walk.lost ≡ paddings_of p row = ap (λ (x : Walk). x.lost) (sym g.walks.is) ∙ ap (λ (k : ℕ). (walk_to p row k).lost) all
      ∙ carried p row closed _ few last in
      ap (λ (k : ℕ). plan_accepted k sums.spans walk.lost) bits
      ∙ ap (λ (k : ℕ). plan_accepted (length_to p row fill n) k walk.lost) many
      ∙ ap (plan_accepted (length_to p row fill n) (length (spans_to p row n))) paddings
      ∙ sym (ap (plan_by (length_to p row fill n) (length (spans_to p row n)) (paddings_of p row)) last)

  -- and met
  pub met_all : length p.kinds ≤ i → length p.kinds ≡ walked_all closed (visits p row)
  met_all b =
      let all : i ≡ length p.kinds = omega (arith, g.within) in
      sym (all-walked p row closed (state_in s) (subst (λ (k : ℕ). placed_to p row closed k ≡ holds (state_in s)) all g.placed))

  -- and the walk is the row's
  pub ended : length p.kinds ≤ i → walk ≡ walk_to p row (length p.kinds)
  ended b = let all : i ≡ length p.kinds = omega (arith, g.within) in sym g.walks.is ∙ ap (walk_to p row) all
