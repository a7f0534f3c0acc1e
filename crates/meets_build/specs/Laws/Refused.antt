-- The nodes before the one that the build is refused at: none of them is refused by the sentences; and the one that it is refused at is, with the number
-- and the place that the build answers.
use Rattle.std.specs.Prelude.{◌≡◌, refl, ◌⊎◌, ℕ, suc, ◌-◌, ◌≤◌, ◌<◌, Ok, Err}
use Rattle.std.proofs.Common.{sym, ap, subst, ◌∙◌, inl, inr, ⊎_elim, arith}
use mathlib.Core.List.{List, [], ◌∷◌, Memᴰ}
use Rattle.prelude.specs.Laws.Bools.{unlike}
use Rattle.prelude.specs.declared.Place.{Place}
use Rattle.prelude.specs.declared.Place.TheVariants.{One, Two}
use Rattle.prelude.specs.declared.Refusal.{Refusal}
use Rattle.output.specs.Calls.{Call, visit_in, visits_before, closed_in, program_in, row_in, nodes_in}
use Rattle.output.specs.Output as out
use Rattle.output.specs.Output.{Builds, settled_of}
use Rattle.output.specs.OffersMade.{FirstRefused}
use Rattle.output.specs.RefusedAtNode.{Reaches, RefusedThere, Cause}
use Rattle.output.proofs.RefusedAtNodeLaws.{cause-of, there}
use Rattle.prelude.specs.Refusals.{number_of, place_of}
use Rattle.output.specs.declared.Output.{Output}
use Rattle.overlap_checker.specs.Folds.{nonzero, empties}
use Rattle.overlap_checker.specs.State.{State, empty_state}
use Rattle.build_plan.specs.Placing.{placed_all, placed_from, holds, stops, verdict_seen}
use Rattle.build_plan.specs.Laws.PlacingLaws.{placed-append, before-holds, stops-holds, offer-is}
use Rattle.resolver.specs.Layout.{Checked}
use Rattle.build_visits.specs.Laws.VisitLaws.{visits-split}
use Rattle.prelude.specs.Told.{Told, gives, refuses, Nothing, told_verdict}
use Rattle.prelude.specs.Theorems.Told.{number-some}
use Rattle.prelude.specs.declared.Refusal.TheVariants.{DefaultBank, PastBank, NoOutput}
use Rattle.prelude.specs.Verdict.{Accepted}
use Rattle.overlap_checker.proofs.Demand3.{only_two, full-place}
use Rattle.overlap_checker.specs.State.{answer as answer-to}
use Rattle.overlap_checker.specs.declared.Entry.{Entry}
use Rattle.output.specs.RefusedAtNode as at-node
use Rattle.build_plan.specs.Placing.{offer_of, answered as asked_of}
use Rattle.resolver.specs.Laws.Least.{or-past}
use Rattle.says.specs.Words.{First}
use Rattle.meets_build.specs.Laws.Checks.{answered}
use Rattle.meets_build.specs.Laws.Contract.{lent_so}
use Rattle.says.specs.Build.{Names, Why, FirstWhy, Built}
use Rattle.c_answers.specs.Told.{first_of, second_of}
use Rattle.meets_build.specs.Laws.Visited.{offer-only}
use Rattle.meets_build.specs.Laws.Naming.{names-there}
use Rattle.says.specs.Build as says
use Rattle.says.specs.Build.{Given, nodes, Offer, StoredCount, Refuses}
use Rattle.meets_sentences.specs.Grounds.{Overlaps, Nine, Ten, Eleven, Twelve, Thirteen}
use Rattle.meets_sentences.specs.Laws.Why.{refuses-9, refuses-10, refuses-11, refuses-13, lowest-of, names-overlaps}
use Rattle.meets_build.specs.Laws.Shown.{Shown, listed}
use Rattle.meets_sentences.specs.Typed.{Typed}
use Rattle.meets_build.specs.Laws.Table.{table}
use Rattle.meets_build.specs.Laws.Walk.{Goes}
use Rattle.meets_sentences.specs.Laws.One.{held_one}
use Rattle.meets_build.specs.Laws.Contract.{input_of}
use Rattle.meets_build.specs.Laws.Offers.{offers_to, held-meets}
use Rattle.meets_build.specs.Laws.AtNode.{call, row_here, gets-past, nine-there, ten-there, eleven-there, twelve-there, thirteen-there, thirteen-mark}

module _ (g : Given) (typed : Typed g) (shown : Shown g (table g)) (ck : Checked (table g) (listed g) g.fill) (old : out.Lent) (answer : Output)
    (new : out.Lent) (meets : Builds (input_of g typed) old answer new) where
  abbrev c : Call
  c = call g typed shown ck old answer new meets

  abbrev r : ℕ
  r = row_here g typed shown ck old answer new meets

  module _ (all : Goes g (table g) shown ck r (nodes g)) where
    -- A node after which the build goes on is not refused.
    pub not-refused : (i : ℕ) (x : Reaches c i) (s : State) → placed_all (closed_in c) (visits_before c (suc i)) ≡ holds s → Refuses g r i → ⊥
    not-refused i x s on z = by z.3
      where
        no : {number : ℕ} {place : Place} → RefusedThere c i number place → ⊥
        no t = stops-holds (sym t.stopped ∙ on)

        not-9 : Nine g r i → ⊥
        not-9 n = no ((nine-there g typed shown ck old answer new meets all i x).1 n)

        not-10 : Ten g r i → ⊥
        not-10 n = no ((ten-there g typed shown ck old answer new meets all i x).1 (not-9, n))

        not-11 : Eleven g r i → ⊥
        not-11 n = no ((eleven-there g typed shown ck old answer new meets all i x).1 (not-9, not-10, n))

        not-12 : {y m : ℕ} → Offer g r i y m → Overlaps g r i y m → ⊥
        not-12 {y} {m} o v = no ((twelve-there g typed shown ck old answer new meets all i x not-9 not-10 not-11 y m o).1 v).1

        not-13 : {y m a b : ℕ} → Offer g r i y m → StoredCount g r i a b → ((0 < m) × (a ≡ 512)) ⊎ ((m ≡ 0) × (b ≡ 512)) → ⊥
        not-13 {y} {m} o h (inl w) =
            let e = held_one g (held-meets g (table g) shown ck r all i (let k = x.listed in omega arith)) h in
            no ((thirteen-there g typed shown ck old answer new meets all i x not-9 not-10 not-11 y m o w.0).1 (e.0 ∙ w.1, λ v. not-12 o v))
        not-13 {y} {m} o h (inr w) =
            let e = held_one g (held-meets g (table g) shown ck r all i (let k = x.listed in omega arith)) h in
            no ((thirteen-mark g typed shown ck old answer new meets all i x not-9 not-10 not-11 y m o w.0).1 (e.1 ∙ w.1, λ v. not-12 o v))

        by : {number place second : ℕ} → Why g r i number place second → ⊥
        by (says.bank-0 p h b) = not-9 (p, h, b)
        by (says.past-size {b = b} {p} {e} {m} {known = k} h s y z l) = not-10 (h, (b, p, k, e, m, s, y, z, l))
        by (says.no_output {b = b} h w y n) = not-11 (h, w, (b, y, n))
        by (says.overlaps o v) = not-12 o (names-overlaps g v)
        by (says.full o h w) = not-13 o h w

    -- So where the build has placed the first n nodes, none of them is refused by the sentences.
    pub none-refused : (k : ℕ) → settled_of (input_of g typed) ≡ Ok k → (n : ℕ) → n ≤ nodes g → (s : State)
        → placed_all (closed_in c) (visits_before c n) ≡ holds s → (i : ℕ) → i < n → Refuses g r i → ⊥
    none-refused k settled n h s e i l z =
        let after = visits-split (program_in c) (row_in c) (suc i) n l in
        let next = before-holds (closed_in c) (placed_all (closed_in c) (visits_before c (suc i))) s after.0
        (sym (placed-append (closed_in c) (holds empty_state) (visits_before c (suc i)) after.0) ∙ ap (placed_all (closed_in c)) (sym after.1) ∙ e) in
        let split = visits-split (program_in c) (row_in c) i n (omega arith) in
        let here = before-holds (closed_in c) (placed_all (closed_in c) (visits_before c i)) s split.0
        (sym (placed-append (closed_in c) (holds empty_state) (visits_before c i) split.0) ∙ ap (placed_all (closed_in c)) (sym split.1) ∙ e) in
        not-refused i (record {
          k = k;
          settled = settled;
          listed = omega arith;
          stored = here.0;
          before = here.1;
          at = (all i (omega arith)).0;
          sees = (all i (omega arith)).1;
        }) next.0 next.1 z

    module _ (k : ℕ) (settled : settled_of (input_of g typed) ≡ Ok k) (why : Refusal) (f : FirstRefused c why) where
      abbrev i : ℕ
      i = f.n

      there-at : i < nodes g
      there-at = f.listed

      abbrev x : Reaches c i
      x = record {
        k = k;
        settled = settled;
        listed = f.listed;
        stored = f.stored;
        before = f.before;
        at = (all f.n f.listed).0;
        sees = (all f.n f.listed).1;
      }

      cause : Cause (closed_in c) x.stored (visit_in c i) x.at why
      cause =
          cause-of (closed_in c) x.stored (visit_in c i) x.at why
          (sym (ap (verdict_seen (closed_in c) (visit_in c i).bank (visit_in c i).def f.stored (visit_in c i).node (visit_in c i).out) x.sees)
          ∙ f.verdict)

      pub refused-there : RefusedThere c i (number_of why) (place_of why)
      refused-there = there c i x why cause

      -- no node before it is refused
      pub first_so : (j : ℕ) → Refuses g r j → (j < i → ⊥)
      first_so j z l = none-refused k settled i (let h = there-at in omega arith) f.stored f.before j l z

      abbrev lent' : says.Lent
      lent' = lent_so old

      told_same : {a b : ℕ} {p q : Place} → ◌≡◌ {A = Told out.Figures} (refuses a p) (refuses b q) → a ≡ b
      told_same e = cc

      -- the build answers one number
      one_number : {a b : ℕ} {p q : Place} → RefusedThere c i a p → RefusedThere c i b q → a ≡ b
      one_number t u = told_same (sym t.told ∙ u.told)

      cons-apart : {why : Refusal} → Accepted ≡ Err why → ⊥
      cons-apart e = unlike cc

      module _ (t : RefusedThere c i (number_of why) (place_of why)) (store : 12 ≤ number_of why) where
        no_9 : Nine g r i → ⊥
        no_9 z = let e = one_number t ((nine-there g typed shown ck old answer new meets all i x).1 z) in omega arith

        no-10 : Ten g r i → ⊥
        no-10 z = let e = one_number t ((ten-there g typed shown ck old answer new meets all i x).1 (no_9, z)) in omega arith

        no-11 : Eleven g r i → ⊥
        no-11 z = let e = one_number t ((eleven-there g typed shown ck old answer new meets all i x).1 (no_9, no-10, z)) in omega arith

      -- what the node is refused for by the sentences: that number, with that place, and no lower one
      abbrev Told-so : Refusal → Type 0
      Told-so w = Why g r i (number_of w) (first_of (place_of w)) (second_of (place_of w))
          × ((number place second : ℕ) → Why g r i number place second → number_of w ≤ number)

      -- A build that is refused 9, 10 or 11 is refused so at its node by the sentences.
      few-says : number_of why ≤ 11 → (w : Refusal) → w ≡ why → Cause (closed_in c) x.stored (visit_in c i) x.at w → Told-so w
      few-says few w s (at-node.nine p d e) =
          let y = (nine-there g typed shown ck old answer new meets all i x).0 (there c i x (DefaultBank i) (at-node.nine p d refl)) in
          rw e (
            refuses-9 g y,
            lowest-of g (omega arith) (λ l. absurd (omega arith)) (λ l. absurd (omega arith)) (λ l. absurd (omega arith)) (λ l. absurd (omega arith)),
          )
      few-says few w s (at-node.ten p d q e) =
          let y = (ten-there g typed shown ck old answer new meets all i x).0 (there c i x (PastBank i) (at-node.ten p d q refl)) in
          rw e (refuses-10 g y.1, lowest-of g (omega arith) (λ l. y.0) (λ l. absurd (omega arith)) (λ l. absurd (omega arith)) (λ l. absurd (omega arith)))
      few-says few w s (at-node.eleven p d q v e) =
          let y = (eleven-there g typed shown ck old answer new meets all i x).0 (there c i x (NoOutput i) (at-node.eleven p d q v refl)) in
          rw e (refuses-11 g y.2, lowest-of g (omega arith) (λ l. y.0) (λ l. y.1) (λ l. absurd (omega arith)) (λ l. absurd (omega arith)))
      few-says few w s (at-node.store p d q v a) = absurd (by-offer (offer_of (visit_in c i)) refl)
        where
          by-offer : (l : List Entry) → offer_of (visit_in c i) ≡ l → ⊥
          by-offer [] is = cons-apart (sym (ap (asked_of x.stored i) is) ∙ a)
          by-offer (e ∷ l) is =
              let asked : answer-to x.stored e i ≡ Err w = sym (ap (asked_of x.stored i) is) ∙ a in
              let two = only_two x.stored e i (number_of w) (number-some w) (place_of w, ap told_verdict asked) in
              let same = ap number_of s in
              ⊎_elim (λ (k : number_of w ≡ 12). omega arith) (λ (k : number_of w ≡ 13). omega arith) two

      -- 12 and 13
      module _ (e : Entry) (is : offer_of (visit_in c i) ≡ e ∷ []) (asked : answer-to x.stored e i ≡ Err why) where
        offer-here : Offer g r i e.position e.size
        offer-here = offer-only g (table g) shown ck r all i there-at e is

        member : Memᴰ e (offer_of (visit_in c i))
        member = subst (Memᴰ e) (sym is) (Memᴰ.head refl)

        module _ (high : 12 ≤ number_of why) where
          n9 : Nine g r i → ⊥
          n9 = no_9 refused-there high

          n10 : Ten g r i → ⊥
          n10 = no-10 refused-there high

          n11 : Eleven g r i → ⊥
          n11 = no-11 refused-there high

          twelve-says : number_of why ≡ 12 → Told-so why
          twelve-says num =
              let t = subst (λ (a : ℕ). RefusedThere c i a (place_of why)) num refused-there in
              let past = gets-past g typed shown ck old answer new meets all i x n9 n10 n11 in
              let w = names-there g typed shown ck old answer new meets all i x past e member (place_of why) t in (
                rw (num, w.2) (says.overlaps offer-here w.3),
                rw num (lowest-of g (omega arith) (λ l. n9) (λ l. n10) (λ l. n11) (λ l. absurd (omega arith))),
              )

          place-13 : number_of why ≡ 13 → place_of why ≡ One i
          place-13 num =
              let told : told_verdict (answer-to x.stored e i) ≡ refuses 13 (place_of why) = ap told_verdict asked
              ∙ ap (λ (a : ℕ). refuses a (place_of why)) num in
              place_same (sym told ∙ full-place x.stored e i (place_of why, told))
            where
              place_same : {p q : Place} → ◌≡◌ {A = Told Nothing} (refuses 13 p) (refuses 13 q) → p ≡ q
              place_same e = cc

          thirteen-so : number_of why ≡ 13 → Thirteen g r i
          thirteen-so num =
              let t = subst (λ (q : Place). RefusedThere c i 13 q) (place-13 num) (subst (λ (a : ℕ). RefusedThere c i a (place_of why)) num refused-there) in
              let held = held-meets g (table g) shown ck r all i (let h = there-at in omega arith) in
              ⊎_elim
              (λ (z : e.size ≤ 0).
              let none : e.size ≡ 0 = omega arith in
              let y = (thirteen-mark g typed shown ck old answer new meets all i x n9 n10 n11 e.position e.size offer-here none).0 t in
              (e.position, e.size, _, _, offer-here, held, inr (none, y.0)))
              (λ (z : 0 < e.size).
              let y = (thirteen-there g typed shown ck old answer new meets all i x n9 n10 n11 e.position e.size offer-here z).0 t in
              (e.position, e.size, _, _, offer-here, held, inl (z, y.0)))
              (or-past e.size 0)

          no-12 : number_of why ≡ 13 → (w : ℕ × ℕ) → Twelve g r i w → ⊥
          no-12 num w z =
              let t = (twelve-there g typed shown ck old answer new meets all i x n9 n10 n11 z.0 z.1 z.2).1 (names-overlaps g z.3) in
              let e = one_number refused-there t.1 in
              omega arith

          thirteen-says : number_of why ≡ 13 → Told-so why
          thirteen-says num =
              let place = place-13 num in (
                rw (num, place) (refuses-13 g (thirteen-so num)),
                rw num (lowest-of g (omega arith) (λ l. n9) (λ l. n10) (λ l. n11) (λ l. no-12 num)),
              )

      -- what the store was asked, where it is the store that refuses
      abbrev Store : Type 0
      Store = (e : Entry) × (offer_of (visit_in c i) ≡ e ∷ []) × (answer-to x.stored e i ≡ Err why) × ((number_of why ≡ 12) ⊎ (number_of why ≡ 13))

      store_of : asked_of x.stored i (offer_of (visit_in c i)) ≡ Err why → Store
      store_of a = go (offer_of (visit_in c i)) refl
        where
          go : (l : List Entry) → offer_of (visit_in c i) ≡ l → Store
          go [] is = absurd (cons-apart (sym (ap (asked_of x.stored i) is) ∙ a))
          go (e ∷ l) is =
              let asked : answer-to x.stored e i ≡ Err why = sym (ap (asked_of x.stored i) is) ∙ a in
              let one = offer-is (visit_in c i) e (subst (Memᴰ e) (sym is) (Memᴰ.head refl)) in
              (e, one, asked, only_two x.stored e i (number_of why) (number-some why) (place_of why, ap told_verdict asked))

      few-or-store : Cause (closed_in c) x.stored (visit_in c i) x.at why → (number_of why ≤ 11) ⊎ Store
      few-or-store (at-node.nine p d e) = inl (let z = ap number_of e in omega arith)
      few-or-store (at-node.ten p d q e) = inl (let z = ap number_of e in omega arith)
      few-or-store (at-node.eleven p d q v e) = inl (let z = ap number_of e in omega arith)
      few-or-store (at-node.store p d q v a) = inr (store_of a)

      store-says : Store → Told-so why
      store-says s =
          ⊎_elim (λ (m : number_of why ≡ 12). twelve-says s.0 s.1 s.2 (omega arith) m)
          (λ (m : number_of why ≡ 13). thirteen-says s.0 s.1 s.2 (omega arith) m) s.3

      -- The node that the build is refused at, 9 to 13, is the first that the sentences refuse, with its number, its place and what 12 names.
      pub refused-first : FirstWhy g r i (number_of why) (first_of (place_of why)) (second_of (place_of why))
      refused-first =
          let y = ⊎_elim (λ few. few-says few why refl cause) store-says (few-or-store cause) in
          record {
            first = record {
              so = (number_of why, first_of (place_of why), second_of (place_of why), y.0);
              none_below = λ j z. ⊎_elim (λ (l : i ≤ j). l) (λ (l : j < i). absurd (first_so j z l)) (or-past i j);
            };
            why = y.0;
            lowest = y.1;
          }

      -- So it is built so by the sentences.
      pub build-refused : (n : ℕ) → Built g lent' r k n (answered g typed lent' why n)
      build-refused n = says.refused refused-first
