-- One node of a row, from the position in its bank to the one after it: what the library's step tells of it is what the sentences say of it.
use Rattle.std.specs.Prelude.{◌≡◌, refl, Bool, true, false, ◌⊎◌, ◌↔◌, ℕ, zero, ◌+◌, ◌/◌, ◌≤◌, ◌<◌, eqb, get_or, Err, Ok, Some, Result}
use Rattle.std.proofs.Common.{sym, ap, subst, ◌∙◌, inl, inr, arith, eqb-true}
use Rattle.std.proofs.Math.Nat.{zero-div}
use Rattle.std.proofs.lemmas.Bool.{eqb-false}
use Rattle.prelude.specs.Laws.Bools.{either, unlike}
use Rattle.prelude.specs.Told.{Told, gives, refuses, told_number}
use Rattle.prelude.specs.Theorems.Told.{number-some}
use Rattle.prelude.specs.declared.Place.{Place}
use Rattle.prelude.specs.declared.Refusal.{Refusal}
use Rattle.bankdef.specs.declared.Bankdef.{Bankdef}
use Rattle.bankdef.specs.declared.Bankdefs.{Bankdefs}
use Rattle.iter.specs.Laws.Aligned.{never}
use Rattle.iter.specs.Theorems.Aligned.{told-when}
use Rattle.iter.specs.Theorems.Padding.{units-over-unit}
use Rattle.iter.specs.Distance.{distance_of}
use Rattle.iter.specs.Figures as told
use Rattle.iter.specs.Figures.{OuterSymbol, Sees, Advances, Keeps, SightSkips, OwnSkips, Skipping}
use Rattle.nodes.specs.declared.Node.{Node}
use Rattle.iter.specs.declared.Pos.{Pos}
use Rattle.iter.specs.declared.Skipped.{Skipped}
use Rattle.says.specs.Build as says
use Rattle.says.specs.Build.{Given, unit, nodes, kind, state, Number, Distance, Lead, Advance, Known, Loses}
use Rattle.meets_build.specs.Laws.Shown.{Tells, node_no, number_is, number-typed, state-is, distance_is}

gives_same : {p q : Pos} → gives p ≡ gives q → p ≡ q
gives_same e = cc

never-gives : {p : Pos} {n : ℕ} {place : Place} → 0 < n → refuses n place ≡ gives p → ⊥
never-gives {n = n} h e = let z : n ≡ 0 = ap (λ (t : Told Pos). told_number t) e in omega arith

never-to : {why : Refusal} {p : Pos} → Err why ≡ Ok p → ⊥
never-to e = unlike cc

same_bool : (x y : Bool) {P : Type 0} → (x ≡ true) ↔ ((y ≡ true) × P) → P → x ≡ y
same_bool true y f h = sym (f.0 refl).0
same_bool false true f h = f.1 (refl, h)
same_bool false false f h = refl

false-bool : (x : Bool) → (x ≡ true → ⊥) → x ≡ false
false-bool true f = absurd (f refl)
false-bool false f = refl

module _ (g : Given) (banks : Bankdefs) (r i b : ℕ) (listed : i < nodes g) (def : Bankdef) (tells : Tells g b def) where
  abbrev n : Node
  n = node_no g banks r i

  -- a distance can be told
  no-untold : (position a : ℕ) (why : Refusal) → distance_of def position a i ≡ Err why → ⊥
  no-untold position a why e = never why _ (sym e ∙ told-when def position a i tells.told)

  -- ---- what it sees

  pub record Sight (at p : Pos) : Type 0 where
    pub lead : ℕ
    pub is : Lead g i b at.position lead
    pub sum : p.position ≡ at.position + lead
    pub known : p.known ≡ at.known
    pub within : at.position ≤ 4294967295 → p.position ≤ 4294967295

  sees-same : (at p : Pos) → at ≡ p → Lead g i b at.position 0 → Sight at p
  sees-same at p e l = record {
    lead = 0;
    is = l;
    sum = let q = ap (λ (x : Pos). x.position) e in omega arith;
    known = ap (λ (x : Pos). x.known) (sym e);
    within = λ h. let q = ap (λ (x : Pos). x.position) e in omega arith;
  }

  aligned-sight : (at p : Pos) (a : ℕ) (d : Skipped) → OuterSymbol n → def.align ≡ Some a → distance_of def at.position a i ≡ Ok d
      → {t : Told Pos} → told.Adds at d.bits at.known i t → t ≡ gives p → Sight at p
  aligned-sight at p a d s f q (told.sum l) e =
      subst (Sight at) (gives_same e) (record {
        lead = d.bits;
        is = says.symbol s.0 s.1 (tells.aligned a f) (distance_is g b def tells at.position a i d q);
        sum = refl;
        known = refl;
        within = λ h. l;
      })
  aligned-sight at p a d s f q (told.past l) e = absurd (never-gives (omega arith) e)

  pub sight-of : (at p : Pos) {t : Told Pos} → Sees def at n t → t ≡ gives p → Sight at p
  sight-of at p (told.other h) e = sees-same at p (gives_same e) (says.unaligned (λ x. h (x.0, x.1)))
  sight-of at p (told.unaligned h) e = sees-same at p (gives_same e) (says.unaligned (λ x. tells.unaligned h x.2))
  sight-of at p (told.aligned s a f (told.by d q m)) e = aligned-sight at p a d s f q m e
  sight-of at p (told.aligned s a f (told.untold why q)) e = absurd (never-gives (number-some why) e)

  -- ---- its own advance

  known_of : (was is : Bool) → Keeps was n is → 4 ≤ kind g i → kind g i ≤ 8 → Known g r i was is
  known_of was is k h l =
      either (eqb (kind g i) 5)
      (λ e. subst (Known g r i was) (sym (k.leaves (eqb-true (kind g i) 5 e))) (says.left (inr (inl (eqb-true (kind g i) 5 e)))))
      (λ e.
      let five = eqb-false (kind g i) 5 e in
      let same = state-is g banks r i listed in
      either (eqb (state g r i) 0)
      (λ z.
      let zero = eqb-true (state g r i) 0 z in
      subst (Known g r i was) (sym (same_bool is was (k.keeps five) (same ∙ zero))) (says.kept h l five zero))
      (λ z.
      let some = eqb-false (state g r i) 0 z in
      subst (Known g r i was) (sym (false-bool is (λ y. some (sym same ∙ ((k.keeps five).0 y).1)))) (says.unmade h (omega arith) five some)))

  known-set : (was is : Bool) → (is ≡ true) ↔ (n.state ≡ 0) → kind g i ≡ 9 → Known g r i was is
  known-set was is k nine =
      let same = state-is g banks r i listed in
      either (eqb (state g r i) 0)
      (λ z.
      let zero = eqb-true (state g r i) 0 z in
      subst (Known g r i was) (sym (k.1 (same ∙ zero))) (says.made nine zero))
      (λ z.
      let some = eqb-false (state g r i) 0 z in
      subst (Known g r i was) (sym (false-bool is (λ y. some (sym same ∙ k.0 y)))) (says.unmade (omega arith) (omega arith) (λ f. omega arith) some))

  still : (kind g i ≤ 3) ⊎ (kind g i ≡ 10) → (kind g i ≤ 3) ⊎ ((kind g i ≡ 5) ⊎ (kind g i ≡ 10))
  still (inl h) = inl h
  still (inr h) = inr (inr h)

  pub record Own (p q : Pos) : Type 0 where
    pub advance : Advance g r i b p.position q.position
    pub known : Known g r i p.known q.known
    pub within : p.position ≤ 4294967295 → q.position ≤ 4294967295

  aligned-own : (p q : Pos) (known : Bool) (d : Skipped) → kind g i ≡ 8 → Keeps p.known n known
      → distance_of def p.position n.number i ≡ Ok d → {t : Told Pos} → told.Adds p d.bits known i t → t ≡ gives q → Own p q
  aligned-own p q known d k keeps f (told.sum l) e =
      subst (Own p) (gives_same e) (record {
        advance = says.aligns k (number_is g banks r i listed) (distance_is g b def tells p.position n.number i d f);
        known = known_of p.known known keeps (omega arith) (omega arith);
        within = λ h. l;
      })
  aligned-own p q known d k keeps f (told.past l) e = absurd (never-gives (omega arith) e)

  pub own_of : ((j : ℕ) → get_or g.numbers j 0 ≤ 4294967295) → (p q : Pos) {t : Told Pos} → Advances def p n t → t ≡ gives q → Own p q
  own_of typed p q (told.unknown h) e = absurd (never-gives (omega arith) e)
  own_of typed p q (told.badly h k) e = absurd (never-gives (omega arith) e)
  own_of typed p q (told.stays s k) e =
      subst (Own p) (gives_same e) (record { advance = says.stays k; known = says.left (still k); within = λ h. h })
  own_of typed p q (told.item s h k known keeps (told.sum l)) e =
      subst (Own p) (gives_same e) (record {
        advance = says.adds h k (number_is g banks r i listed);
        known = known_of p.known known keeps h (omega arith);
        within = λ h. l;
      })
  own_of typed p q (told.item s h k known keeps (told.past l)) e = absurd (never-gives (omega arith) e)
  own_of typed p q (told.aligns s k known keeps (told.by d f a)) e = aligned-own p q known d k keeps f a e
  own_of typed p q (told.aligns s k known keeps (told.untold why f)) e = absurd (never-gives (number-some why) e)
  own_of typed p q (told.sets s k known sets) e =
      subst (Own p) (gives_same e) (record {
        advance = says.sets k (number_is g banks r i listed);
        known = known-set p.known known sets k;
        within = λ h. number-typed g banks r i listed typed;
      })

  -- ---- what it loses

  skipping-of : (at p : Pos) (a : ℕ) {m : Result Pos Refusal} {s : Skipped} → Skipping def at a i m s → m ≡ Ok p → Distance g b at.position a s.bits
  skipping-of at p a (told.by {s = s} f) e = distance_is g b def tells at.position a i s f
  skipping-of at p a told.refused e = absurd (never-to e)
  skipping-of at p a (told.untold why f) e = absurd (no-untold at.position a why f)

  pub lead-lost : (at p : Pos) {m : Result Pos Refusal} {s : Skipped} → SightSkips def at n m s → m ≡ Ok p → Lead g i b at.position s.bits
  lead-lost at p (told.other h) e = says.unaligned (λ x. h (x.0, x.1))
  lead-lost at p (told.unaligned h) e = says.unaligned (λ x. tells.unaligned h x.2)
  lead-lost at p (told.aligned o a f k) e = says.symbol o.0 o.1 (tells.aligned a f) (skipping-of at p a k e)

  -- the bits that an align skips are its distance
  pub own-lost : (p q : Pos) {m : Result Pos Refusal} {s : Skipped} → kind g i ≡ 8 → OwnSkips def p n m s → m ≡ Ok q → Distance g b p.position n.number s.bits
  own-lost p q eight (told.other h) e = absurd (h eight)
  own-lost p q eight (told.aligns h k) e = skipping-of p q n.number k e

  -- and the whole units in it: "distance over unit, rounded down"
  skipping-units : {at : Pos} {a : ℕ} {m : Result Pos Refusal} {s : Skipped} → Skipping def at a i m s → s.units ≡ s.bits / unit g b
  skipping-units {at} {a} (told.by {s = s} f) = units-over-unit def at.position a i s f ∙ ap (λ (u : ℕ). s.bits / u) tells.of-unit
  skipping-units told.refused = sym (zero-div (unit g b))
  skipping-units (told.untold why f) = sym (zero-div (unit g b))

  pub lead-units : (at : Pos) {m : Result Pos Refusal} {s : Skipped} → SightSkips def at n m s → s.units ≡ s.bits / unit g b
  lead-units at (told.other h) = sym (zero-div (unit g b))
  lead-units at (told.unaligned h) = sym (zero-div (unit g b))
  lead-units at (told.aligned o a f k) = skipping-units k

  pub own-units : (p : Pos) {m : Result Pos Refusal} {s : Skipped} → OwnSkips def p n m s → s.units ≡ s.bits / unit g b
  own-units p (told.other h) = sym (zero-div (unit g b))
  own-units p (told.aligns h k) = skipping-units k
