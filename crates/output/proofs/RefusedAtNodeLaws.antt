-- Laws that Theorems/RefusedAtNode rests on.
use Rattle.std.specs.Prelude.{◌≡◌, List, [], ◌∷◌, ◌↔◌, ℕ, suc, ◌+◌, ◌≤◌, ◌<◌, eqb, length, Option, Some, None, Err, Result}
use Rattle.std.proofs.Math.Path.{refl, ap}
use Rattle.std.proofs.Common.{sym, ◌∙◌, inl, inr, ⊎_elim, arith, ltb-true, lt-ltb, eqb-true, eq-eqb}
use mathlib.Core.Bool.{Bool, true, false, ◌&&◌}
use mathlib.Core.List.{Permᴰ}
use Rattle.prelude.specs.Laws.Bools.{unlike, both}
use Rattle.prelude.specs.Pick.{pick}
use Rattle.prelude.specs.Refusals.{number_of, place_of}
use Rattle.prelude.specs.Told.{Told, gives, refuses, told_refusal, Nothing, nothing}
use Rattle.prelude.specs.declared.Refusal.{Refusal}
use Rattle.prelude.specs.declared.Refusal.TheVariants.{DefaultBank, PastBank, NoOutput}
use Rattle.prelude.specs.declared.Place.{Place}
use Rattle.prelude.specs.Verdict.{Verdict, Accepted}
use Rattle.iter.specs.Address.{out_at}
use Rattle.iter.specs.declared.Pos.{Pos}
use Rattle.nodes.specs.Kinds.{size_of}
use Rattle.nodes.specs.Lists.{first_of}
use Rattle.overlap_checker.specs.declared.Entry.{Entry}
use Rattle.overlap_checker.specs.State.{State, empty_state, answer}
use Rattle.overlap_checker.specs.Folds.{state_after}
use Rattle.overlap_checker.specs.Theorems.Answers.{three_ways, answer-overlaps, answer-full, answer-passes}
use Rattle.build_visits.specs.declared.Visit.{Visit}
use Rattle.build_visits.specs.Laws.VisitLaws.{visits-next, visits-split}
use Rattle.build_visits.specs.Items.{is_written, items_of, length_of}
use Rattle.build_visits.specs.Spans.{spans_of}
use Rattle.build_plan.specs.Placing.{is_placed, closes_default, uses_default, ends_past, lacks_output, offer_of}
use Rattle.build_plan.specs.Placing.{answered, placing}
use Rattle.build_plan.specs.Placing.{verdict_seen, Placed, holds, stops, placed_if, placed_next, placed_from, placed_all}
use Rattle.build_plan.specs.Laws.PlacingLaws.{placed-append, placed-last, stops-stay}
use Rattle.build_plan.specs.Theorems.PlacingLaws.{checked-opens}
use Rattle.output.specs.Output.{Input, closed_of, room_of, placed_build, settled_build, fill_of, told_build}
use Rattle.output.specs.Calls.{Call, nodes_in, closed_in, program_in, row_in, visit_in, visits_in, visits_before}
use Rattle.output.proofs.CallsLaws.{build-is}
use Rattle.output.specs.RefusedAtNode.{Cause, Closed, Reaches, RefusedThere, eleven, nine, store, ten}

-- ---- the tests mean that

module _ (b : Input) (v : Visit) where
  closed-exactly : (closed_of b ≡ true) ↔ Closed b
  closed-exactly = (
    λ e. opens b.choices.closed refl e,
    ⊎_elim (λ (shut : b.choices.closed ≡ true). rw shut) (λ (others : 1 < b.banks.len). shuts b.choices.closed others),
  )
    where
      opens : (closed : Bool) → b.choices.closed ≡ closed → closes_default b.banks.len closed ≡ true → Closed b
      opens false is e = inr (ltb-true 1 b.banks.len e)
      opens true is e = inl is

      shuts : (closed : Bool) → 1 < b.banks.len → closes_default b.banks.len closed ≡ true
      shuts false others = lt-ltb 1 b.banks.len others
      shuts true others = refl

  pub uses-default : (uses_default (closed_of b) v.bank ≡ true) ↔ ((v.bank ≡ 0) × Closed b)
  uses-default = (
    λ e. let h = both (eqb v.bank 0) (closed_of b) e in (eqb-true v.bank 0 h.0, closed-exactly.0 h.1),
    λ h. rw (eq-eqb v.bank 0 h.0, closed-exactly.1 h.1),
  )

  pub past : (o : Option ℕ) (end : ℕ) → (ends_past o end ≡ true) ↔ ((size : ℕ) × (o ≡ Some size) × (size < end))
  past None end = (λ e. absurd (mathlib.Core.Bool.true≢false (sym e)), λ h. absurd (let z : ◌≡◌ {A = ℕ} 0 1 = none-some h.0 h.1 in omega arith))
    where
      none-some : (size : ℕ) → None ≡ Some size → ◌≡◌ {A = ℕ} 0 1
      none-some size e = cc
  past (Some s) end = (λ e. (s, refl, ltb-true s end e), λ h. let same : s ≡ h.0 = some_same s h.0 h.1 in lt-ltb s end (omega (arith, h.2)))
    where
      some_same : (a b : ℕ) → Some a ≡ Some b → a ≡ b
      some_same a b e = cc

  pub lacks : (o : Option ℕ) (position : ℕ) → (lacks_output (out_at o position) ≡ true) ↔ (o ≡ None)
  lacks None position = (λ e. refl, λ e. refl)
  lacks (Some f) position = (λ e. absurd (mathlib.Core.Bool.true≢false (sym e)), λ e. unlike cc)

pub decided : {A : Type 0} (b : Bool) → (b ≡ true → A) → (b ≡ false → A) → A
decided true f g = f refl
decided false f g = g refl

pub holds_not : {b : Bool} {P : Type 0} → (b ≡ true) ↔ P → b ≡ false → P → ⊥
holds_not {b} i e p = mathlib.Core.Bool.true≢false (sym (i.1 p) ∙ e)

pub not-holds : {b : Bool} {P : Type 0} → (b ≡ true) ↔ P → (P → ⊥) → b ≡ false
not-holds {b} i n = decided b (λ e. absurd (n (i.0 e))) (λ e. e)

turned_same : {a b : Refusal} → ◌≡◌ {A = (Verdict)} (Err a) (Err b) → b ≡ a
turned_same e = cc

never : {why : Refusal} → Accepted ≡ Err why → ⊥
never e = unlike cc

module _ (closed : Bool) (s : State) (v : Visit) (at : Pos) where
  abbrev index : ℕ
  index = v.node.index

  abbrev ends : Bool
  ends = ends_past v.def.size (at.position + size_of v.node)

  abbrev pub nowhere : Bool
  nowhere = is_written v.node && lacks_output v.out

  opened : Verdict
  opened =
      pick (is_placed v.node)
      (first_of
      (pick (uses_default closed v.bank) (Err (DefaultBank v.node.index))
      (pick (ends_past v.def.size (at.position + size_of v.node)) (Err (PastBank v.node.index))
      (pick (is_written v.node && lacks_output v.out) (Err (NoOutput v.node.index)) Accepted)))
      (answered s v.node.index (offer_of v)))
      Accepted

  opens : placing closed v.bank v.def s v.node at v.out ≡ opened
  unfolding opened
  opens =
      ap (λ (w : Verdict). pick (is_placed v.node) (first_of w (answered s v.node.index (offer_of v))) Accepted)
      (checked-opens closed v.bank v.def v.node at v.out)

  pub cause-of : (why : Refusal) → placing closed v.bank v.def s v.node at v.out ≡ Err why → Cause closed s v at why
  unfolding opened
  cause-of why e = go (is_placed v.node) (uses_default closed v.bank) ends nowhere refl refl refl refl (sym opens ∙ e)
    where
      go : (p d q w : Bool) → is_placed v.node ≡ p → uses_default closed v.bank ≡ d → ends_past v.def.size (at.position + size_of v.node) ≡ q
          → (is_written v.node && lacks_output v.out) ≡ w
          → pick p (first_of (pick d (Err (DefaultBank index)) (pick q (Err (PastBank index)) (pick w (Err (NoOutput index)) Accepted)))
          (answered s index (offer_of v))) Accepted ≡ Err why
          → Cause closed s v at why
      go false d q w ep ed eq ew h = absurd (never h)
      go true true q w ep ed eq ew h = nine ep ed (turned_same h)
      go true false true w ep ed eq ew h = ten ep ed eq (turned_same h)
      go true false false true ep ed eq ew h = eleven ep ed eq ew (turned_same h)
      go true false false false ep ed eq ew h = store ep ed eq ew h

  pub cause-refuses : (why : Refusal) → Cause closed s v at why → placing closed v.bank v.def s v.node at v.out ≡ Err why
  unfolding opened
  cause-refuses why (nine p d e) = opens ∙ rw (p, d, e)
  cause-refuses why (ten p d q e) = opens ∙ rw (p, d, q, e)
  cause-refuses why (eleven p d q w e) = opens ∙ rw (p, d, q, w, e)
  cause-refuses why (store p d q w e) = opens ∙ rw (p, d, q, w) e

-- ---- a refusal at node n is the build's answer

module _ (c : Call) (n : ℕ) (r : Reaches c n) where
  abbrev visit : Visit
  visit = visit_in c n

  abbrev verdict : Verdict
  verdict = placing (closed_in c) visit.bank visit.def r.stored visit.node r.at visit.out

  placed-there : placed_all (closed_in c) (visits_before c (suc n)) ≡ placed_if verdict (state_after r.stored (offer_of visit))
  placed-there =
      ap (placed_all (closed_in c)) (visits-next (program_in c) (row_in c) n)
      ∙ placed-last (closed_in c) (holds empty_state) (visits_before c n) visit
      ∙ ap (placed_next (closed_in c) visit) r.before
      ∙ ap
      (λ (m : Result Pos Refusal). placed_if (verdict_seen (closed_in c) visit.bank visit.def r.stored visit.node visit.out m)
      (state_after r.stored (offer_of visit)))
      r.sees

  -- the whole build stops there
  stops-all : (why : Refusal) → placed_all (closed_in c) (visits_before c (suc n)) ≡ stops why → c.answer.build ≡ Err why
  stops-all why e =
      let (rest, split) = visits-split (program_in c) (row_in c) (suc n) (nodes_in c) r.listed in
      let whole : placed_all (closed_in c) (visits_in c) ≡ stops why =
      ap (placed_all (closed_in c)) split
      ∙ placed-append (closed_in c) (holds empty_state) (visits_before c (suc n)) rest
      ∙ ap (λ (q : Placed). placed_from (closed_in c) q rest) e
      ∙ stops-stay (closed_in c) why rest in
      build-is c
      ∙ ap (settled_build c.given (room_of c.old) c.answer.passes) r.settled
      ∙ ap (placed_build (room_of c.old) r.k (length_of (fill_of c.given) (items_of (visits_in c))) (length (spans_of (visits_in c)))) whole

  pub there : (why : Refusal) → Cause (closed_in c) r.stored visit r.at why → RefusedThere c n (number_of why) (place_of why)
  there why cause =
      let stop = placed-there ∙ ap (λ (w : Verdict). placed_if w (state_after r.stored (offer_of visit)))
      (cause-refuses (closed_in c) r.stored visit r.at why cause) in
      record { why = why; stopped = stop; told = ap told_build (stops-all why stop) }

  stops-if : (w : Verdict) (s : State) (why : Refusal) → placed_if w s ≡ stops why → w ≡ Err why
  stops-if Accepted s why e = unlike cc
  stops-if (Err other) s why e = cc

  pub cause-there : (number : ℕ) (place : Place) → RefusedThere c n number place
      → (why : Refusal) × Cause (closed_in c) r.stored visit r.at why × (number_of why ≡ number) × (place_of why ≡ place)
  cause-there number place t =
      let cause = cause-of (closed_in c) r.stored visit r.at t.why (stops-if verdict _ t.why (sym placed-there ∙ t.stopped)) in
      let told : told_refusal t.why ≡ refuses number place = sym (ap told_build (stops-all t.why t.stopped)) ∙ t.told in
      (t.why, cause, same_number told, same_place told)
    where
      Figs : Type 0
      Figs = Rattle.output.specs.Output.Figures

      same_number : {a d : ℕ} {p q : Place} → ◌≡◌ {A = Told Figs} (refuses a p) (refuses d q) → a ≡ d
      same_number e = cc

      same_place : {a d : ℕ} {p q : Place} → ◌≡◌ {A = Told Figs} (refuses a p) (refuses d q) → p ≡ q
      same_place e = cc

-- ---- 9, 10 and 11

-- what the store refuses has number 12 or 13
answer-number : (s : State) (e : Entry) (node : ℕ) (why : Refusal) → answer s e node ≡ Err why → 12 ≤ number_of why
answer-number s e node why a =
    three_ways s e
    (λ h. let z : number_of why ≡ 12 = ap number_of (turned_same (sym (answer-overlaps s e node h) ∙ a)) in omega arith)
    (λ h l. let z : number_of why ≡ 13 = ap number_of (turned_same (sym (answer-full s e node h l) ∙ a)) in omega arith)
    (λ h l. absurd (never (sym (answer-passes s e node h l) ∙ a)))

pub store-number : (s : State) (node : ℕ) (l : List Entry) (why : Refusal) → answered s node l ≡ Err why → 12 ≤ number_of why
store-number s node [] why a = absurd (never a)
store-number s node (e ∷ l) why a = answer-number s e node why a

pub perm-length : {A : Type 0} {k l : List A} → Permᴰ k l → length k ≡ length l
perm-length Permᴰ.nil = refl
perm-length (Permᴰ.cons e d) = ap suc (perm-length d)
perm-length (Permᴰ.swap e g) = refl
perm-length (Permᴰ.trans d f) = perm-length d ∙ perm-length f

pub same-told : {a d : ℕ} {p q : Place} → ◌≡◌ {A = Told Nothing} (refuses a p) (refuses d q) → (a ≡ d) × (p ≡ q)
same-told e = (cc, cc)

pub gave-refused : {a : ℕ} {p : Place} → ◌≡◌ {A = Told Nothing} (gives nothing) (refuses a p) → ⊥
gave-refused e = unlike cc
