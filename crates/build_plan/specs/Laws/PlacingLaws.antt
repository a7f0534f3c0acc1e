-- Laws that Theorems/PlacingLaws rests on.
use Rattle.std.specs.Prelude.{◌≡◌, ◌⊎◌, ℕ, ◌<◌, eqb, take, drop, Err, Result, Ok, Option, None, Some}
use Rattle.std.proofs.Math.Path.{refl}
use Rattle.std.proofs.Common.{sym, ap, subst, ◌∙◌, inl, inr, ⊎_elim, arith, take-append-drop}
use mathlib.Core.Bool.{Bool, true, false}
use mathlib.Core.List.{List, [], ◌∷◌, ◌++◌, Memᴰ}
use Rattle.prelude.specs.Laws.Bools.{unlike, or_right}
use Rattle.prelude.specs.Pick.{pick}
use Rattle.prelude.specs.Laws.Pick.{pick_true}
use Rattle.prelude.specs.declared.Refusal.{Refusal}
use Rattle.prelude.specs.Verdict.{Accepted, Verdict}
use Rattle.nodes.specs.declared.Node.{Node}
use Rattle.iter.specs.declared.Pos.{Pos}
use Rattle.nodes.specs.Lists.{first_of}
use Rattle.overlap_checker.specs.declared.Entry.{Entry}
use Rattle.overlap_checker.specs.Interval.{Covers}
use Rattle.overlap_checker.specs.Offers.{place_for}
use Rattle.overlap_checker.specs.State.{State, answer, is_accepted, inserted, after}
use Rattle.overlap_checker.specs.Folds.{state_after, answers, accepted_by, accepted}
use Rattle.overlap_checker.specs.Theorems.Answers.{accepts-any-node, accepted-free, accepted-keeps, keeping-bits, after-either}
use Rattle.overlap_checker.specs.Theorems.Bits.{clash-exactly}
use Rattle.overlap_checker.specs.Laws.Bits.{any_of}
use Rattle.blocks.specs.Bits.{NoSharedBit}
use Rattle.build_visits.specs.declared.Visit.{Visit}
use Rattle.build_visits.specs.Visits.{each}
use Rattle.build_visits.specs.Laws.VisitLaws.{each_from}
use Rattle.build_plan.specs.Placing.{is_offered, offer_of, checked, answered, tried}
use Rattle.build_plan.specs.Placing.{placing, verdict_seen, verdict_on}
use Rattle.build_plan.specs.Placing.{bits_at, offers_of, Placed, holds, stops, placed_if, placed_next, placed_from}
use Rattle.build_plan.specs.PlacingLaws.{OfferedBit}

-- ---- verdicts and tests

pub refused-accepted : {r : Refusal} → Err r ≡ Accepted → ⊥
refused-accepted e = unlike cc

pub stops-holds : {r : Refusal} {s : State} → stops r ≡ holds s → ⊥
stops-holds e = unlike cc

-- a case that would refuse was not taken
pub passed : (b : Bool) (r : Refusal) (v : Verdict) → pick b (Err r) v ≡ Accepted → (b ≡ false) × (v ≡ Accepted)
passed true r v e = absurd (refused-accepted e)
passed false r v e = (refl, e)

pub first-accepted : (v w : Verdict) → first_of v w ≡ Accepted → (v ≡ Accepted) × (w ≡ Accepted)
first-accepted Accepted w e = (refl, e)
first-accepted (Err r) w e = absurd (refused-accepted e)

-- ---- visits placed one after another

module _ (closed : Bool) where
  pub placed-append : (q : Placed) (k l : List Visit) → placed_from closed q (k ++ l) ≡ placed_from closed (placed_from closed q k) l
  unfolding placed_from
  placed-append q [] l = refl
  placed-append q (v ∷ k) l = placed-append (placed_next closed v q) k l

  pub placed-last : (q : Placed) (k : List Visit) (v : Visit) → placed_from closed q (k ++ v ∷ []) ≡ placed_next closed v (placed_from closed q k)
  unfolding placed_from
  placed-last q k v = placed-append q k (v ∷ [])

  -- a refusal stays
  pub stops-stay : (why : Refusal) (l : List Visit) → placed_from closed (stops why) l ≡ stops why
  unfolding placed_from
  stops-stay why [] = refl
  stops-stay why (v ∷ l) = stops-stay why l

  -- the first of visits that were all accepted
  if-holds : (v : Verdict) (s t : State) (l : List Visit) → placed_from closed (placed_if v s) l ≡ holds t
      → (v ≡ Accepted) × (placed_from closed (holds s) l ≡ holds t)
  if-holds Accepted s t l e = (refl, e)
  if-holds (Err why) s t l e = absurd (stops-holds (sym (stops-stay why l) ∙ e))

  first_holds : (s t : State) (v : Visit) (l : List Visit) → placed_from closed (holds s) (v ∷ l) ≡ holds t
      → (verdict_on closed s v ≡ Accepted) × (placed_from closed (holds (state_after s (offer_of v))) l ≡ holds t)
  unfolding placed_from
  first_holds s t v l e = if-holds (verdict_on closed s v) (state_after s (offer_of v)) t l e

  -- what came before visits that were all accepted
  pub before-holds : (q : Placed) (t : State) (l : List Visit) → placed_from closed q l ≡ holds t → (s : State) × (q ≡ holds s)
  before-holds (holds s) t l e = (s, refl)
  before-holds (stops why) t l e = absurd (stops-holds (sym (stops-stay why l) ∙ e))

-- ---- what a node that is accepted offered

pub picked-some : {X : Type 0} (b : Bool) (l : List X) {x : X} → Memᴰ x (pick b l []) → (b ≡ true) × Memᴰ x l
picked-some true l m = (refl, m)
picked-some false l m = absurd (mathlib.Core.List.Memᴰ.not-nil m)

pub seen-placing : (closed : Bool) (s : State) (v : Visit) (seen : Result Pos Refusal) → verdict_seen closed v.bank v.def s v.node v.out seen ≡ Accepted
    → (at : Pos) × (seen ≡ Ok at) × (placing closed v.bank v.def s v.node at v.out ≡ Accepted)
seen-placing closed s v (Ok at) e = (at, refl, e)
seen-placing closed s v (Err why) e = absurd (refused-accepted e)

-- a visit makes one offer at most
one-bits : (out : Option ℕ) (n : Node) (a b : Entry) → Memᴰ a (bits_at out n) → Memᴰ b (bits_at out n) → a ≡ b
one-bits None n a b ma mb = absurd (mathlib.Core.List.Memᴰ.not-nil ma)
one-bits (Some o) n a b ma mb = mathlib.Core.List.Memᴰ.eq_of_singleton ma ∙ sym (mathlib.Core.List.Memᴰ.eq_of_singleton mb)

pub one-offer : (v : Visit) (a b : Entry) → Memᴰ a (offer_of v) → Memᴰ b (offer_of v) → a ≡ b
one-offer v a b ma mb =
    one-bits v.out v.node a b (picked-some (is_offered v.node) _ ma).1 (picked-some (is_offered v.node) _ mb).1

pub offer-is : (v : Visit) (e : Entry) → Memᴰ e (offer_of v) → offer_of v ≡ e ∷ []
offer-is v e m = go v.out (is_offered v.node) m
  where
    go : (out : Option ℕ) (b : Bool) → Memᴰ e (pick b (bits_at out v.node) []) → pick b (bits_at out v.node) [] ≡ e ∷ []
    go out false k = absurd (mathlib.Core.List.Memᴰ.not-nil k)
    go None true k = absurd (mathlib.Core.List.Memᴰ.not-nil k)
    go (Some o) true k = ap (λ (f : Entry). f ∷ []) (sym (mathlib.Core.List.Memᴰ.eq_of_singleton k))

-- every offer of an accepted visit was answered, and accepted
pub offer-accepted : (closed : Bool) (s : State) (v : Visit) → verdict_on closed s v ≡ Accepted → (e : Entry) → Memᴰ e (offer_of v)
    → answer s e v.node.index ≡ Accepted
offer-accepted closed s v acc e m =
    let n = v.node in
    let o = (picked-some (is_offered n) _ m).0 in
    let seen = seen-placing closed s v v.seen acc in
    let all : tried closed v.bank v.def s n seen.0 v.out ≡ Accepted =
    rw (pick_true (tried closed v.bank v.def s n seen.0 v.out) Accepted (or_right (eqb n.kind 2) (is_offered n) o)) at seen.2 in
    only (offer_of v) (first-accepted (checked closed v.bank v.def n seen.0 v.out) (answered s n.index (offer_of v)) all).1
    (λ a ma. one-offer v a e ma m) m
  where
    only : (l : List Entry) → answered s v.node.index l ≡ Accepted → ((a : Entry) → Memᴰ a l → a ≡ e) → Memᴰ e l
        → answer s e v.node.index ≡ Accepted
    only [] a one k = absurd (mathlib.Core.List.Memᴰ.not-nil k)
    only (f ∷ l) a one k = subst (λ (g : Entry). answer s g v.node.index ≡ Accepted) (one f (mathlib.Core.List.Memᴰ.head refl)) a

-- each of visits that were all accepted was
pub each-accepted : (closed : Bool) (s t : State) (l : List Visit) → placed_from closed (holds s) l ≡ holds t → {v : Visit} → Memᴰ v l
    → (u : State) × (verdict_on closed u v ≡ Accepted)
each-accepted closed s t [] e m = absurd (mathlib.Core.List.Memᴰ.not-nil m)
each-accepted closed s t (w ∷ l) e {v} m =
    let first = first_holds closed s t w l e in
    ⊎_elim
    (λ (same : v ≡ w). (s, subst (λ (u : Visit). verdict_on closed s u ≡ Accepted) (sym same) first.0))
    (λ (later : Memᴰ v l). each-accepted closed (state_after s (offer_of w)) t l first.1 later)
    (mathlib.Core.List.Memᴰ.cases_cons m)

-- ---- the store

-- an accepted offer shares no bit with what is stored
apart-stored : (s : State) (e f : Entry) (node bit : ℕ) → answer s e node ≡ Accepted → Memᴰ f s.intervals → Covers e bit → Covers f bit → ⊥
apart-stored s e f node bit acc m ours theirs =
    let hit = any_of e s.intervals f m ((clash-exactly e f (omega (arith, ours.0, ours.1))).1 (bit, ours, theirs)) in
    mathlib.Core.Bool.true≢false (sym hit ∙ accepted-free s e node acc)

-- an interval that is put in is held, and those that were held stay
inserted_new : (l : List Entry) (e : Entry) → Memᴰ e (inserted l e)
inserted_new l e = mathlib.Core.List.Memᴰ.append_right (take (place_for e.position l) l) (mathlib.Core.List.Memᴰ.head refl)

inserted-old : (l : List Entry) (e f : Entry) → Memᴰ f l → Memᴰ f (inserted l e)
inserted-old l e f m = around (mathlib.Core.List.Memᴰ.append_cases (take place l) (rw take-append-drop m))
  where
    place : ℕ
    place = place_for e.position l

    around : Memᴰ f (take place l) ⊎ Memᴰ f (drop place l) → Memᴰ f (take place l ++ e ∷ drop place l)
    around (inl a) = mathlib.Core.List.Memᴰ.append_left (e ∷ drop place l) a
    around (inr b) = mathlib.Core.List.Memᴰ.append_right (take place l) (mathlib.Core.List.Memᴰ.tail b)

keeps-one : (s : State) (e f : Entry) → Memᴰ f s.intervals → Memᴰ f (after s e).intervals
keeps-one s e f m =
    after-either s e (λ (t : State). Memᴰ f t.intervals) m (λ clear some room. inserted-old s.intervals e f m) (λ clear none room. m)

keeps-stored : (s : State) (es : List Entry) (f : Entry) → Memᴰ f s.intervals → Memᴰ f (state_after s es).intervals
unfolding state_after
keeps-stored s [] f m = m
keeps-stored s (e ∷ es) f m = keeps-stored (after s e) es f (keeps-one s e f m)

-- an accepted offer of nonzero size is stored
holds-one : (s : State) (e : Entry) (node : ℕ) → answer s e node ≡ Accepted → 0 < e.size → Memᴰ e (after s e).intervals
holds-one s e node acc some = rw (accepted-keeps s e node acc, keeping-bits s e some) (inserted_new s.intervals e)

holds-offer : (s : State) (v : Visit) (e : Entry) → Memᴰ e (offer_of v) → 0 < e.size → answer s e v.node.index ≡ Accepted
    → Memᴰ e (state_after s (offer_of v)).intervals
unfolding state_after
holds-offer s v e m some acc = rw (offer-is v e m) (holds-one s e v.node.index acc some)

-- What is stored once all are accepted is what their offers leave, and every offer was accepted.
folds : (s : State) (o es : List Entry) → state_after s (o ++ es) ≡ state_after (state_after s o) es
unfolding state_after
folds s [] es = refl
folds s (e ∷ o) es = folds (after s e) o es

accepts-one : (s : State) (v : Visit) (o es : List Entry) → offer_of v ≡ o
    → ((e : Entry) → Memᴰ e (offer_of v) → answer s e v.node.index ≡ Accepted)
    → accepted (state_after s (offer_of v)) es ≡ es → accepted s (offer_of v ++ es) ≡ offer_of v ++ es
unfolding state_after answers accepted_by
accepts-one s v [] es same acc rest = rw same (rw same at rest)
accepts-one s v (e ∷ o) es same acc rest =
    let here : Memᴰ e (offer_of v) = subst (λ (l : List Entry). Memᴰ e l) (sym same) (mathlib.Core.List.Memᴰ.head refl) in
    let one = offer-is v e here in
    let yes : is_accepted (answer s e 0) ≡ true = sym (accepts-any-node s e v.node.index) ∙ ap is_accepted (acc e here) in
    rw (one, yes) (ap (λ (l : List Entry). e ∷ l) (rw one at rest))

pub placed-accepts : (closed : Bool) (s t : State) (l : List Visit) → placed_from closed (holds s) l ≡ holds t
    → (t ≡ state_after s (offers_of l)) × (accepted s (offers_of l) ≡ offers_of l)
unfolding each placed_from state_after answers accepted_by
placed-accepts closed s t [] e = (cc, refl)
placed-accepts closed s t (v ∷ l) e =
    let first = first_holds closed s t v l e in
    let rest = placed-accepts closed (state_after s (offer_of v)) t l first.1 in
    (rest.0 ∙ sym (folds s (offer_of v) (offers_of l)), accepts-one s v (offer_of v) (offers_of l) refl (offer-accepted closed s v first.0) rest.1)

-- nothing that is offered has a bit of what is stored, and no two visits have one in common
pub record Apart (s : State) (l : List Visit) : Type 0 where
  pub stored : (bit : ℕ) (f : Entry) → Memᴰ f s.intervals → Covers f bit → (v : Visit) → Memᴰ v l → OfferedBit bit v → ⊥
  pub offered : NoSharedBit OfferedBit l

pub holds-apart : (closed : Bool) (s t : State) (l : List Visit) → placed_from closed (holds s) l ≡ holds t → Apart s l
holds-apart closed s t [] e = record { stored = λ bit f m c v mv o. mathlib.Core.List.Memᴰ.not-nil mv; offered = tt }
holds-apart closed s t (v ∷ l) e =
    let first = first_holds closed s t v l e in
    let rest = holds-apart closed (state_after s (offer_of v)) t l first.1 in
    record {
      stored = λ bit f m c w mw o.
          ⊎_elim
          (λ (same : w ≡ v).
          let free = subst (λ (u : Visit). OfferedBit bit u) same o in
          apart-stored s free.0 f v.node.index bit (offer-accepted closed s v first.0 free.0 free.1) m free.2 c)
          (λ (later : Memᴰ w l). rest.stored bit f (keeps-stored s (offer_of v) f m) c w later o)
          (mathlib.Core.List.Memᴰ.cases_cons mw);
      offered = (
        λ bit o others.
            let c = o.2 in
            rest.stored bit o.0
            (holds-offer s v o.0 o.1 (omega (arith, c.0, c.1)) (offer-accepted closed s v first.0 o.0 o.1))
            c others.0 others.1 others.2,
        rest.offered,
      );
    }

-- ---- lists made from visits that have no bit in common

module _ {A : Type 0} (In : ℕ → A → Type 0) where
  apart-append : (k l : List A) → NoSharedBit In k → NoSharedBit In l
      → ((bit : ℕ) (a b : A) → Memᴰ a k → In bit a → Memᴰ b l → In bit b → ⊥) → NoSharedBit In (k ++ l)
  apart-append [] l nk nl h = nl
  apart-append (a ∷ k) l nk nl h = (
    λ bit i o.
        ⊎_elim
        (λ (m : Memᴰ o.0 k). nk.0 bit i (o.0, m, o.2))
        (λ (m : Memᴰ o.0 l). h bit a o.0 (mathlib.Core.List.Memᴰ.head refl) i m o.2)
        (mathlib.Core.List.Memᴰ.append_cases k o.1),
    apart-append k l nk.1 nl (λ bit x y m. h bit x y (mathlib.Core.List.Memᴰ.tail m)),
  )

  -- one element, or none
  pub apart-one : (b : Bool) (a : A) → NoSharedBit In (pick b (a ∷ []) [])
  apart-one true a = (λ bit i o. mathlib.Core.List.Memᴰ.not-nil o.1, tt)
  apart-one false a = tt

-- what each visit gives shares no bit with what another gives, where it lies within the visit's offer
pub each-apart : {X : Type 0} (f : Visit → List X) (In : ℕ → X → Type 0) → ((v : Visit) → NoSharedBit In (f v))
    → ((bit : ℕ) (v : Visit) (x : X) → Memᴰ x (f v) → In bit x → OfferedBit bit v)
    → (vs : List Visit) → NoSharedBit OfferedBit vs → NoSharedBit In (each f vs)
unfolding each
each-apart f In one within [] n = tt
each-apart f In one within (v ∷ vs) n =
    apart-append In (f v) (each f vs) (one v) (each-apart f In one within vs n.1)
    (λ bit a b ma ia mb ib.
    let r = each_from f vs mb in
    n.0 bit (within bit v a ma ia) (r.0, r.1, within bit r.0 b r.2 ib))
