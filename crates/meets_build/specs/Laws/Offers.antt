-- The row of the last pass: each bank's padding, how many spans there are, and what is offered before a node (the intervals, the marks, and how many of
-- each) are what the sentences say.
use Rattle.std.specs.Prelude.{◌≡◌, refl, Bool, true, false, ℕ, zero, suc, ◌+◌, ◌≤◌, ◌<◌, ltb, length, get_or}
use Rattle.std.proofs.Common.{sym, subst, ◌∙◌, length-append, lt-ltb, le-ltb, ltb-true, ltb-false}
use Rattle.std.proofs.Math.Path.{ap}
use mathlib.Core.List.{List, [], ◌∷◌, ◌++◌}
use native.Mathlib.Omega.{arith}
use Rattle.prelude.specs.Laws.Bools.{either, unlike}
use Rattle.prelude.specs.Pick.{pick}
use Rattle.bankdef.specs.declared.Bankdefs.{Bankdefs}
use Rattle.iter.specs.Step.{no_lost}
use Rattle.nodes.specs.Theorems.Sound.{accepted-lists}
use Rattle.overlap_checker.specs.Folds.{nonzero, empties}
use Rattle.overlap_checker.specs.Interval.{interval}
use Rattle.overlap_checker.specs.declared.Entry.{Entry}
use Rattle.build_plan.specs.Theorems.Kinds.{span-exactly}
use Rattle.build_plan.specs.Placing.{offer_of, offers_of}
use Rattle.build_plan.specs.Laws.PlacingLaws.{offer-is}
use Rattle.build_plan.specs.Plan.{of_banks, paddings_of}
use Rattle.build_plan.specs.Laws.Plan.{length-of-banks, get_d-of-banks}
use Rattle.resolver.specs.Layout.{Checked}
use Rattle.resolver.specs.Padding.{padding_to}
use Rattle.resolver.specs.Theorems.Padding.{walk-carries-padding}
use Rattle.build_visits.specs.Spans.{Span, is_span, span_at, span_of, spans_of}
use Rattle.build_visits.specs.Laws.VisitLaws.{each_next, each_member, each_from, visits-none, visit-member, member-visit}
use Rattle.build_visits.specs.Visits.{each, visit_at, visits_to}
use Rattle.build_visits.specs.declared.Visit.{Visit}
use Rattle.says.specs.Build as says
use Rattle.says.specs.Build.{Given, nodes, Standing, BankAt, Offer, Interval, Mark, StoredCount, IsSpan, Spans, Padding}
use Rattle.meets_build.specs.Laws.Shown.{Shown, listed, walked, row_no, node_no}
use Rattle.meets_build.specs.Laws.Walk.{walk_no, Goes, at-walk}
use Rattle.meets_build.specs.Laws.Visited.{visited, offer-when, offer-only}
use mathlib.Core.List.{Memᴰ}

module _ (g : Given) (tab : Bankdefs) (shown : Shown g tab) (c : Checked tab (listed g) g.fill) (r : ℕ) where
  -- what the first n nodes lose, bank by bank, where the walk goes past them
  pub sums-meet : (n : ℕ) → n ≤ nodes g → Goes g tab shown c r n
      → (length (of_banks (λ b. padding_to (walked g tab) (row_no g tab r) b n)) ≡ 16)
      × ((b : ℕ) → b < 16 → (at : Standing) × BankAt g r n b at × (get_or (of_banks (λ b. padding_to (walked g tab) (row_no g tab r) b n)) b no_lost ≡ at.lost))
  sums-meet n low goes = (
    length-of-banks (λ b. padding_to (walked g tab) (row_no g tab r) b n),
    λ b h.
        let few = (accepted-lists tab.len (listed g) g.fill c.lists).few in
        let sum = get_d-of-banks (λ b. padding_to (walked g tab) (row_no g tab r) b n) b h in
        let carried = walk-carries-padding (walked g tab) (row_no g tab r) n b (omega arith) goes in
        (_, at-walk g tab shown c r n low goes b h, sum ∙ sym carried),
  )

module _ (g : Given) (tab : Bankdefs) (shown : Shown g tab) (c : Checked tab (listed g) g.fill) (r : ℕ) (all : Goes g tab shown c r (nodes g)) where
  -- "each bank should carry the sum of bits lost .. in the last pass"
  pub padding-meets : Padding g r (paddings_of (walked g tab) (row_no g tab r))
  padding-meets = sums-meet g tab shown c r (nodes g) (omega arith) all

  abbrev pub offers_to : ℕ → List Entry
  offers_to i = offers_of (visits_to (walked g tab) (row_no g tab r) i)

  abbrev v : (i : ℕ) → Visit
  v i = visit_at (walked g tab) (row_no g tab r) i

  offers-next : (i : ℕ) → offers_to (suc i) ≡ offers_to i ++ offer_of (v i)
  offers-next i = each_next (walked g tab) (row_no g tab r) offer_of i

  -- an offer of a node before
  pub offer-member : {i j y n : ℕ} → i ≤ nodes g → j < i → Offer g r j y n → Memᴰ (interval y n) (offers_to i)
  offer-member {i} {j} {y} {n} h l o =
      each_member offer_of (visit-member (walked g tab) (row_no g tab r) i j l)
      (subst (Memᴰ (interval y n)) (sym (offer-when g tab shown c r all j (omega arith) o)) (Memᴰ.head refl))

  pub member-offer : (i : ℕ) → i ≤ nodes g → (e : Entry) → Memᴰ e (offers_to i) → (j : ℕ) × (j < i) × Offer g r j e.position e.size
  member-offer i h e m =
      let f = each_from offer_of (visits_to (walked g tab) (row_no g tab r) i) m in
      let w = member-visit (walked g tab) (row_no g tab r) i f.1 in
      let is = subst (λ (x : Visit). offer_of x ≡ e ∷ []) w.2 (offer-is f.0 e f.2) in
      (w.0, w.1, offer-only g tab shown c r all w.0 (omega (arith, w.1)) e is)

  -- what was stored before node i
  pub interval-member : {i y n : ℕ} → i ≤ nodes g → Interval g r i y n → Memᴰ (interval y n) (offers_to i) × (0 < n)
  interval-member h (says.interval l o some) = (offer-member h l o, some)

  pub member-interval : (i : ℕ) → i ≤ nodes g → (e : Entry) → Memᴰ e (offers_to i) → 0 < e.size → Interval g r i e.position e.size
  member-interval i h e m some = let x = member-offer i h e m in says.interval x.1 x.2 some

  pub mark-member : {i y : ℕ} → i ≤ nodes g → Mark g r i y → Memᴰ (interval y 0) (offers_to i)
  mark-member h (says.mark l o) = offer-member h l o

  pub member-mark : (i : ℕ) → i ≤ nodes g → (e : Entry) → Memᴰ e (offers_to i) → e.size ≡ 0 → Mark g r i e.position
  member-mark i h e m none = let x = member-offer i h e m in says.mark x.1 (subst (Offer g r x.0 e.position) none x.2)

  -- ---- how many

  nonzero-app : (l m : List Entry) → length (nonzero (l ++ m)) ≡ length (nonzero l) + length (nonzero m)
  unfolding nonzero
  nonzero-app [] m = omega arith
  nonzero-app (e ∷ l) m =
      either (ltb 0 e.size) (λ t. rw t (omega (arith, nonzero-app l m))) (λ t. rw t (nonzero-app l m))

  empties-app : (l m : List Entry) → length (empties (l ++ m)) ≡ length (empties l) + length (empties m)
  unfolding empties
  empties-app [] m = omega arith
  empties-app (e ∷ l) m =
      either (ltb 0 e.size) (λ t. rw t (empties-app l m)) (λ t. rw t (omega (arith, empties-app l m)))

  one-nonzero : (e : Entry) → 0 < e.size → (length (nonzero (e ∷ [])) ≡ 1) × (length (empties (e ∷ [])) ≡ 0)
  unfolding nonzero empties
  one-nonzero e h = rw (lt-ltb 0 e.size h) (refl, refl)

  one-empty : (e : Entry) → e.size ≡ 0 → (length (nonzero (e ∷ [])) ≡ 0) × (length (empties (e ∷ [])) ≡ 1)
  unfolding nonzero empties
  one-empty e h = rw (le-ltb 0 e.size (omega arith)) (refl, refl)

  no-counts : (length (nonzero []) ≡ 0) × (length (empties []) ≡ 0)
  unfolding nonzero empties
  no-counts = (refl, refl)

  abbrev pub Counts : ℕ → Type 0
  Counts i = StoredCount g r i (length (nonzero (offers_to i))) (length (empties (offers_to i)))

  counts-by : (i : ℕ) (l : List Entry) → offer_of (v i) ≡ l → {a b x y : ℕ} → length (nonzero (offers_to i)) ≡ x → length (empties (offers_to i)) ≡ y
      → x + length (nonzero l) ≡ a → y + length (empties l) ≡ b → StoredCount g r (suc i) a b → Counts (suc i)
  counts-by i l e {a} {b} f k p q held =
      let m : length (nonzero (offers_to (suc i))) ≡ a =
      ap (λ (z : List Entry). length (nonzero z)) (offers-next i ∙ ap (λ (z : List Entry). offers_to i ++ z) e)
      ∙ nonzero-app (offers_to i) l ∙ ap (λ (z : ℕ). z + length (nonzero l)) f ∙ p in
      let n : length (empties (offers_to (suc i))) ≡ b =
      ap (λ (z : List Entry). length (empties z)) (offers-next i ∙ ap (λ (z : List Entry). offers_to i ++ z) e)
      ∙ empties-app (offers_to i) l ∙ ap (λ (z : ℕ). z + length (empties l)) k ∙ q in
      subst (λ (z : ℕ). StoredCount g r (suc i) z (length (empties (offers_to (suc i))))) (sym m) (subst (StoredCount g r (suc i) a) (sym n) held)

  none-at-0 : {X : Type 0} (f : Visit → List X) → each f (visits_to (walked g tab) (row_no g tab r) 0) ≡ []
  unfolding each
  none-at-0 f = ap (each f) (visits-none (walked g tab) (row_no g tab r))

  apart : {e : Entry} {l : List Entry} → ◌≡◌ {A = List Entry} (e ∷ l) [] → ⊥
  apart e = unlike cc

  -- So many intervals and so many marks stand before node i.
  pub held-meets : (i : ℕ) → i ≤ nodes g → Counts i
  held-meets zero h =
      let e = none-at-0 offer_of in
      let m : length (nonzero (offers_to 0)) ≡ 0 = ap (λ (z : List Entry). length (nonzero z)) e ∙ no-counts.0 in
      let n : length (empties (offers_to 0)) ≡ 0 = ap (λ (z : List Entry). length (empties z)) e ∙ no-counts.1 in
      subst (λ (z : ℕ). StoredCount g r 0 z (length (empties (offers_to 0)))) (sym m) (subst (StoredCount g r 0 0) (sym n) says.at_first)
  held-meets (suc i) h = go (held-meets i (omega arith)) (offer_of (v i)) refl
    where
      offered : Counts i → (e : Entry) → offer_of (v i) ≡ e ∷ [] → Counts (suc i)
      offered before e is =
          either (ltb 0 e.size)
          (λ t.
          let some = ltb-true 0 e.size t in
          let k = one-nonzero e some in
          counts-by i (e ∷ []) is refl refl (omega (arith, k.0)) (omega (arith, k.1)) (says.more before (offer-only g tab shown c r all i h e is) some))
          (λ t.
          let none : e.size ≡ 0 = let q = ltb-false 0 e.size t in omega arith in
          let k = one-empty e none in
          counts-by i (e ∷ []) is refl refl (omega (arith, k.0)) (omega (arith, k.1))
          (says.marks before (subst (Offer g r i e.position) none (offer-only g tab shown c r all i h e is))))

      go : Counts i → (l : List Entry) → offer_of (v i) ≡ l → Counts (suc i)
      go before [] is =
          counts-by i [] is refl refl (omega (arith, no-counts.0)) (omega (arith, no-counts.1))
          (says.not-offered before (λ y n o. apart (sym (offer-when g tab shown c r all i h o) ∙ is)))
      go before (e ∷ l) is = offered before e (offer-is (v i) e (subst (Memᴰ e) (sym is) (Memᴰ.head refl)))

  -- ---- spans

  span-one : (t : Bool) (x : Span) → t ≡ true → length (pick t (x ∷ []) []) ≡ 1
  span-one t x e = rw e

  span_none : (t : Bool) (x : Span) → t ≡ false → length (pick t (x ∷ []) []) ≡ 0
  span_none t x e = rw e

  -- So many spans stand before node i.
  pub spans-meet : (i : ℕ) → Spans g i (length (spans_of (visits_to (walked g tab) (row_no g tab r) i)))
  spans-meet zero = subst (Spans g 0) (sym (ap (λ (z : List Span). length z) (none-at-0 span_of))) says.before-all
  spans-meet (suc i) =
      let l = spans_of (visits_to (walked g tab) (row_no g tab r) i) in
      let next = ap (λ (z : List Span). length z) (each_next (walked g tab) (row_no g tab r) span_of i) ∙ length-append l (span_of (v i)) in
      either (is_span (v i).node)
      (λ t.
      let one = span-one (is_span (v i).node) (span_at (v i)) t in
      subst (Spans g (suc i)) (sym (next ∙ plus_one (length l) one)) (says.more (spans-meet i) ((span-exactly (v i).node).0 t)))
      (λ t.
      let none = span_none (is_span (v i).node) (span_at (v i)) t in
      subst (Spans g (suc i)) (sym (next ∙ plus_none (length l) none)) (says.no_span (spans-meet i) (λ s. both_ways ((span-exactly (v i).node).1 s) t)))
    where
      plus_one : (x : ℕ) {y : ℕ} → y ≡ 1 → x + y ≡ suc x
      plus_one x e = omega arith

      plus_none : (x : ℕ) {y : ℕ} → y ≡ 0 → x + y ≡ x
      plus_none x e = omega arith

      both_ways : {t : Bool} → t ≡ true → t ≡ false → ⊥
      both_ways e f = unlike cc
