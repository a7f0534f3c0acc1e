-- Whom 12 names at a node: the interval or the mark that the sentences name.
use Rattle.std.specs.Prelude.{◌≡◌, refl, true, false, ◌⊎◌, ℕ, ◌+◌, ◌-◌, ◌≤◌, ◌<◌, min, max, eqb, ltb, None, Some}
use Rattle.std.proofs.Common.{sym, ap, subst, ◌∙◌, inl, inr, ⊎_elim, arith}
use mathlib.Core.List.{List, Memᴰ}
use borrow.Author.Tests.{eqb-true, eqb-false, eq-eqb, ne_eqb, ltb-true, lt-ltb}
use Rattle.prelude.specs.Laws.Bools.{either, both, clash, unlike}
use Rattle.prelude.specs.Pick.{pick}
use Rattle.prelude.specs.declared.Place.{Place}
use Rattle.prelude.specs.declared.Place.TheVariants.{One, Two}
use Rattle.overlap_checker.specs.Interval.{interval, clashes, shares_bit, strictly_inside}
use Rattle.overlap_checker.specs.declared.Entry.{Entry}
use Rattle.bankdef.specs.declared.Bankdef.{Bankdef}
use Rattle.overlap_checker.specs.Folds.{accepted, state_after}
use Rattle.overlap_checker.specs.Naming.{LowestAbove, HighestBelow, Named}
use Rattle.overlap_checker.specs.State.{State, empty_state}
use Rattle.overlap_checker.proofs.WhatIsStored.{mark-accepted, accepted-mark}
use Rattle.output.specs.Calls.{Call, visit_in, visits_before, closed_in}
use Rattle.output.specs.OffersWithin.{OffsetsFit}
use Rattle.output.specs.Output as out
use Rattle.output.specs.Output.{Builds}
use Rattle.output.specs.RefusedAtNode.{Reaches, RefusedThere, offers_before}
use Rattle.output.proofs.RefusedAtNode.{GetsPast, stored-from-offers, offers-are-stored, refused-12-names}
use Rattle.output.specs.declared.Output.{Output}
use Rattle.build_plan.specs.Placing.{offer_of}
use Rattle.build_plan.specs.Laws.PlacingLaws.{placed-accepts}
use Rattle.resolver.specs.Layout.{Checked}
use Rattle.resolver.specs.Laws.Least.{or-past}
use Rattle.resolver.specs.Theorems.Listed.{unlisted-bank}
use Rattle.says.specs.Build as says
use Rattle.says.specs.Build.{Given, nodes, Clash, Interval, Mark, Names}
use Rattle.meets_build.specs.Laws.Shown.{Shown, listed}
use Rattle.meets_sentences.specs.Typed.{Typed}
use Rattle.meets_build.specs.Laws.Table.{table}
use Rattle.meets_build.specs.Laws.Walk.{Goes}
use Rattle.meets_build.specs.Laws.Contract.{input_of}
use Rattle.meets_build.specs.Laws.Offers.{interval-member, member-interval, mark-member, member-mark}
use Rattle.meets_build.specs.Laws.AtNode.{call, row_here}

module _ (g : Given) (e f : Entry) where
  -- The test of a clash means what the sentences say.
  pub clash-of : clashes e f ≡ true → Clash g e.position e.size f.position f.size
  unfolding clashes shares_bit strictly_inside
  clash-of t =
      either (eqb e.size 0)
      (λ z.
      let none = eqb-true e.size 0 z in
      let k = both (ltb f.position e.position) (ltb e.position (f.position + f.size)) (rw z at t) in
      let a = ltb-true f.position e.position k.0 in
      let b = ltb-true e.position (f.position + f.size) k.1 in
      says.inside none (omega arith) a b)
      (λ z.
      let some = eqb-false e.size 0 z in
      let k = ltb-true (max e.position f.position) (min (e.position + e.size) (f.position + f.size)) (rw z at t) in
      says.bits (omega arith) (omega arith) (omega arith) (omega arith))

  pub clash-to : Clash g e.position e.size f.position f.size → clashes e f ≡ true
  unfolding clashes shares_bit strictly_inside
  clash-to (says.bits a b below above) =
      rw (ne_eqb e.size 0 (λ q. omega arith)) (lt-ltb (max e.position f.position) (min (e.position + e.size) (f.position + f.size)) (omega arith))
  clash-to (says.inside none b below above) =
      rw (eq-eqb e.size 0 none, lt-ltb f.position e.position below, lt-ltb e.position (f.position + f.size) above)

fits : (g : Given) → Typed g → Shown g (table g) → OffsetsFit (table g)
fits g typed shown b o e =
    ⊎_elim
    (λ (h : (table g).len ≤ b). absurd (none-some (sym (ap (λ (d : Bankdef). d.offset) (unlisted-bank (table g) b h)) ∙ e)))
    (λ (h : b < (table g).len). let x = (shown.tells b h).placed o e in omega (arith, x.1, typed.offsets b))
    (or-past (table g).len b)
  where
    none-some : {a : ℕ} → None ≡ Some a → ⊥
    none-some e = unlike cc

module _ (g : Given) (typed : Typed g) (shown : Shown g (table g)) (ck : Checked (table g) (listed g) g.fill) (old : out.Lent) (answer : Output)
    (new : out.Lent) (meets : Builds (input_of g typed) old answer new) where
  abbrev c : Call
  c = call g typed shown ck old answer new meets

  abbrev r : ℕ
  r = row_here g typed shown ck old answer new meets

  module _ (all : Goes g (table g) shown ck r (nodes g)) (i : ℕ) (x : Reaches c i) (past : GetsPast c i x) (e : Entry)
      (offer : Memᴰ e (offer_of (visit_in c i))) where
    low : i ≤ nodes g
    low = let k = x.listed in omega arith

    abbrev kept : List Entry
    kept = x.stored.intervals

    -- the intervals that are stored are those before
    to-stored : {z l : ℕ} → Interval g r i z l → Memᴰ (interval z l) kept
    to-stored {z} {l} k =
        let m = interval-member g (table g) shown ck r all low k in
        offers-are-stored c i x past e offer (interval z l) m.0 m.1

    from-stored : (f : Entry) → Memᴰ f kept → 0 < f.size → Interval g r i f.position f.size
    from-stored f m some = member-interval g (table g) shown ck r all i low f (stored-from-offers c i x past e offer f m) some

    abbrev Marks : List ℕ
    Marks = x.stored.marks

    stored_is : x.stored ≡ state_after empty_state (offers_before c i)
    stored_is = (placed-accepts (closed_in c) empty_state x.stored (visits_before c i) x.before).0

    all-accepted : accepted empty_state (offers_before c i) ≡ offers_before c i
    all-accepted = (placed-accepts (closed_in c) empty_state x.stored (visits_before c i) x.before).1

    to-mark : {z : ℕ} → Mark g r i z → Memᴰ z Marks
    to-mark {z} k =
        subst (λ (s : State). Memᴰ z s.marks) (sym stored_is)
        (accepted-mark (offers_before c i) (interval z 0) refl
        (subst (λ (l : List Entry). Memᴰ (interval z 0) l) (sym all-accepted) (mark-member g (table g) shown ck r all low k)))

    from-mark : (z : ℕ) → Memᴰ z Marks → Mark g r i z
    from-mark z m =
        let w = mark-accepted (offers_before c i) z (subst (λ (s : State). Memᴰ z s.marks) stored_is m) in
        subst (Mark g r i) w.3
        (member-mark g (table g) shown ck r all i low w.0 (subst (λ (l : List Entry). Memᴰ w.0 l) all-accepted w.1) w.2)

    clash-some : {y n z l : ℕ} → Clash g y n z l → 0 < l
    clash-some (says.bits a b d f) = b
    clash-some (says.inside a b d f) = b

    no-clash : (f : Entry) → clashes e f ≡ false → Clash g e.position e.size f.position f.size → ⊥
    no-clash f t k = clash (clash-to g e f k) t

    names_of : (f : Entry) → Named x.stored e f → Names g r i e.position e.size f.position f.size
    names_of f (inl k) = by-rule k.rule
      where
        hits : Clash g e.position e.size f.position f.size
        hits = clash-of g e f k.clash

        this : Interval g r i f.position f.size
        this = from-stored f k.member (clash-some hits)

        by-rule : LowestAbove kept e f ⊎ HighestBelow kept e f → Names g r i e.position e.size f.position f.size
        by-rule (inl a) = says.above this a.starts (λ z l m above. a.lowest (interval z l) (to-stored m) above) hits
        by-rule (inr a) =
            says.below this a.starts (λ z l m below. a.highest (interval z l) (to-stored m) below) hits
            (λ z l m above hit. no-clash (interval z l) (a.otherwise (interval z l) (to-stored m) above) hit)
    names_of f (inr k) =
        let inside = k.inside in
        subst (Names g r i e.position e.size f.position) (sym k.empty)
        (says.mark (from-mark f.position k.member) inside.0 inside.1 lowest-mark
        (λ z l m hit. no-clash (interval z l) (k.clear (interval z l) (to-stored m)) hit))
      where
        lowest-mark : (z : ℕ) → Mark g r i z → e.position < z → f.position ≤ z
        lowest-mark z m above =
            ⊎_elim (λ (l : e.position + e.size ≤ z). let inside = k.inside in omega (arith, inside.1))
            (λ (l : z < e.position + e.size). k.lowest z (to-mark m) (above, l))
            (or-past (e.position + e.size) z)

    -- "Refusal 12 names .."
    pub names-there : (place : Place) → RefusedThere c i 12 place
        → (y : ℕ) × (m : ℕ) × (place ≡ Two y m) × Names g r i e.position e.size y m
    names-there place t =
        let w = refused-12-names c i x past e offer (fits g typed shown) place t in
        (w.0.position, w.0.size, w.1, names_of w.0 w.3)
