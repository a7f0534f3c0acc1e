-- The definitions of distance, address, sight and advance say what specs/Figures has, case by case; and 5 is given exactly when a sum
-- passes the limit.
use Rattle.std.specs.Prelude.{ℕ, ◌/◌, ◌<◌, ◌≡◌, Bool, true, false, ◌||◌, ◌⊎◌, ◌↔◌, eqb, ltb, leb, Ok, Err, Result, ℤ, Option, None, Some}
use Rattle.std.proofs.Math.Path.{refl}
use Rattle.std.proofs.Common.{sym, subst, ◌∙◌, inl, inr, suc-mul, div-mul-le_self, arith, ltb-true, ltb-false, leb-true, eqb-true, eq-eqb, ne_eqb, le-leb}
use Rattle.std.proofs.Math.Nat.{zero-div, lt-div-mul-add}
use Rattle.std.proofs.lemmas.Bool.{eqb-false}
use Rattle.prelude.specs.Laws.Bools.{either, clash, both}
use Rattle.prelude.specs.Pick.{pick}
use Rattle.prelude.specs.Laws.Pick.{pick_true, pick-false}
use Rattle.prelude.specs.declared.Refusal.TheVariants.{Malformed}
use Rattle.prelude.specs.declared.Refusal.{Refusal}
use Rattle.bankdef.specs.declared.Bankdef.{Bankdef}
use Rattle.iter.specs.Address.{units_from, address_of}
use Rattle.iter.specs.Theorems.Advance.{bad-state, sound-state, early, item, aligning, setting, asserting, other}
use Rattle.iter.specs.Theorems.Aligned.{distance-aligns}
use Rattle.iter.specs.Distance.{tellable, address_in_bits, distance_to, skips_of, distance_of}
use Rattle.iter.specs.Figures as told
use Rattle.iter.specs.Figures.{told_distance, told_address, told_moved, WholeUnits, Measures, Stands, OuterSymbol, Sees, Keeps}
use Rattle.iter.specs.Figures.{SoundState, Advances, SightSkips, OwnSkips}
use Rattle.iter.specs.Known.{stays_known}
use Rattle.iter.specs.Step.{outermost_symbol, label_aligned, seen_of, resolved, bad_state, moved_on, advanced_of}
use Rattle.iter.specs.Step.{when_made, label_skips, seen_skips, advance_skips}
use Rattle.nodes.specs.declared.Node.{Node}
use Rattle.iter.specs.declared.Pos.{Pos}
use Rattle.iter.specs.Laws.ToldFacts.{added, aligning-told, has-unit, none-skipped, skipping-told}
use Rattle.iter.specs.declared.Skipped.{Skipped}

-- The quotient is the count of whole units.
pub whole-units : (unit bits : ℕ) → 0 < unit → WholeUnits unit bits (bits / unit)
whole-units unit bits h =
    record { fit = div-mul-le_self bits unit; no_more = rw (suc-mul (bits / unit) unit) (lt-div-mul-add h) }

module _ (def : Bankdef) (position a node : ℕ) where
  measured : (t : Bool) → tellable def ≡ t
      → Measures def position a node (told_distance (pick t (Ok (skips_of def (distance_to (address_in_bits def position) a))) (Err (Malformed node))))
  measured false e = told.malformed e
  measured true e =
      either (eqb a 0)
      (λ f. rw (f, zero-div def.unit) (told.none e (eqb-true a 0 f)))
      (λ f. let h : 0 < a = omega (arith, eqb-false a 0 f) in
      let d = distance_to (address_in_bits def position) a in
      told.next e h (skips_of def d) (distance-aligns (address_in_bits def position) a h) (whole-units def.unit d (has-unit def e)))

  -- What is told of a distance.
  pub distance-told : Measures def position a node (told_distance (distance_of def position a node))
  unfolding distance_of
  distance-told = measured (tellable def) refl

  pub distance-answers : {r : Result Skipped Refusal} → r ≡ distance_of def position a node
      → (r ≡ distance_of def position a node) × Measures def position a node (told_distance r)
  distance-answers e = (e, subst (λ (r : Result Skipped Refusal). Measures def position a node (told_distance r)) (sym e) distance-told)

module _ (def : Bankdef) (position node : ℕ) where
  pub address-when : tellable def ≡ true → address_of def position node ≡ Ok (units_from def position)
  unfolding address_of
  address-when e = pick_true _ _ e

  pub address-four : tellable def ≡ false → address_of def position node ≡ Err (Malformed node)
  unfolding address_of
  address-four e = pick-false _ _ e

  stood : (t : Bool) → tellable def ≡ t → Stands def position node (told_address (pick t (Ok (units_from def position)) (Err (Malformed node))))
  stood true e = told.at e
  stood false e = told.malformed e

  -- What is told of an address.
  pub address-told : Stands def position node (told_address (address_of def position node))
  unfolding address_of
  address-told = stood (tellable def) refl

  pub address-answers : {r : Result ℤ Refusal} → r ≡ address_of def position node → (r ≡ address_of def position node) × Stands def position node (told_address r)
  address-answers e = (e, subst (λ (r : Result ℤ Refusal). Stands def position node (told_address r)) (sym e) address-told)

-- ---- what a node sees

-- The test for a symbol of depth 0 holds of labels and of constants, of depth 0 alone.
pub outer-symbol : (node : Node) → (outermost_symbol node ≡ true) ↔ OuterSymbol node
outer-symbol node = (
  λ e.
      let t = both (eqb node.kind 2 || eqb node.kind 3) (eqb node.operand 0) e in (
        either (eqb node.kind 2) (λ k. inl (eqb-true node.kind 2 k))
            (λ k. either (eqb node.kind 3) (λ l. inr (eqb-true node.kind 3 l))
            (λ l. absurd (clash t.0 (rw (k, l))))),
        eqb-true node.operand 0 t.1,
      ),
  λ s. symbol s.0 s.1,
)
  where
    symbol : (node.kind ≡ 2) ⊎ (node.kind ≡ 3) → node.operand ≡ 0 → outermost_symbol node ≡ true
    symbol (inl k) o = rw (k, o)
    symbol (inr k) o = rw (k, o)

module _ (def : Bankdef) (at : Pos) (node : Node) where
  by-label : (o : Option ℕ) → def.align ≡ o → OuterSymbol node → Sees def at node (told_moved (label_aligned def o at node.index))
  by-label None e s = told.unaligned e
  by-label (Some a) e s = told.aligned s a e (aligning-told def at a at.known node.index)

  -- What is told of the position that a node sees.
  pub sight-told : Sees def at node (told_moved (seen_of def at node))
  unfolding seen_of
  sight-told =
      either (outermost_symbol node)
      (λ e. rw e (by-label def.align refl ((outer-symbol node).0 e)))
      (λ e. rw e (told.other (λ s. clash ((outer-symbol node).1 s) e)))

  by-alignment : (o : Option ℕ) → def.align ≡ o → OuterSymbol node → (m : Result Pos Refusal)
      → SightSkips def at node m (when_made m (label_skips def o at node.index))
  by-alignment None e s m = rw (none-skipped m) (told.unaligned e)
  by-alignment (Some a) e s m = told.aligned s a e (skipping-told def at a node.index m)

  -- What is told of what is skipped to it.
  pub sight-skips : SightSkips def at node (seen_of def at node) (seen_skips def at node)
  unfolding seen_skips
  sight-skips =
      either (outermost_symbol node)
      (λ e. rw e (by-alignment def.align refl ((outer-symbol node).0 e) (seen_of def at node)))
      (λ e. rw (e, none-skipped (seen_of def at node)) (told.other (λ s. clash ((outer-symbol node).1 s) e)))

-- ---- known-ness

-- Known-ness over an item or an alignment.
pub known-keeps : (was : Bool) (node : Node) → Keeps was node (stays_known was node)
known-keeps was node = record {
  leaves = λ e. pick_true _ _ (eq-eqb node.kind 5 e);
  keeps = λ n. rw (ne_eqb node.kind 5 n) (
    λ e. let t = both was (eqb node.state 0) e in (t.0, eqb-true node.state 0 t.1),
    λ t. rw (t.0, t.1),
  );
}

-- ---- the advance

pub sound-of : (node : Node) → bad_state node ≡ false → SoundState node
sound-of node e h =
    either (ltb 2 node.state)
    (λ t. absurd (clash (rw (le-leb 3 node.kind h) t) e))
    (λ t. ltb-false 2 node.state t)

module _ (def : Bankdef) (at : Pos) (node : Node) where
  told-as : {m : Result Pos Refusal} → advanced_of def at node ≡ m → Advances def at node (told_moved m) → Advances def at node (told_moved (advanced_of def at node))
  told-as e h = subst (λ (m : Result Pos Refusal). Advances def at node (told_moved m)) (sym e) h

  by_kind : SoundState node → advanced_of def at node ≡ moved_on def at node → Advances def at node (told_moved (advanced_of def at node))
  by_kind s e =
      either (ltb node.kind 4)
      (λ t. let l = ltb-true node.kind 4 t in told-as (e ∙ early def at node l) (told.stays s (inl (omega arith))))
      (λ t. let h = ltb-false node.kind 4 t in either (ltb node.kind 8)
      (λ u. let k = ltb-true node.kind 8 u in
      told-as (e ∙ item def at node h (omega arith))
      (told.item s h (omega arith) (stays_known at.known node) (known-keeps at.known node)
      (added at node.number (stays_known at.known node) node.index)))
      (λ u. let k = ltb-false node.kind 8 u in either (eqb node.kind 8)
      (λ v. let q = eqb-true node.kind 8 v in
      told-as (e ∙ aligning def at node q)
      (told.aligns s q (stays_known at.known node) (known-keeps at.known node)
      (aligning-told def at node.number (stays_known at.known node) node.index)))
      (λ v. either (eqb node.kind 9)
      (λ w. let q = eqb-true node.kind 9 w in
      told-as (e ∙ setting def at node q)
      (told.sets s q (resolved node) (eqb-true node.state 0, eq-eqb node.state 0)))
      (λ w. either (eqb node.kind 10)
      (λ x. let q = eqb-true node.kind 10 x in told-as (e ∙ asserting def at node q) (told.stays s (inr q)))
      (λ x.
      let over : 10 < node.kind =
      omega (arith, eqb-false node.kind 8 v, eqb-false node.kind 9 w, eqb-false node.kind 10 x) in
      told-as (e ∙ other def at node over) (told.unknown over))))))

  -- What is told of the position after a node's own advance.
  pub advance-told : Advances def at node (told_moved (advanced_of def at node))
  advance-told =
      either (bad_state node)
      (λ e.
      let t = both (leb 3 node.kind) (ltb 2 node.state) e in
      told-as (bad-state def at node e) (told.badly (leb-true 3 node.kind t.0) (ltb-true 2 node.state t.1)))
      (λ e. by_kind (sound-of node e) (sound-state def at node e))

  -- What is told of what it skips.
  pub own-skips : OwnSkips def at node (advanced_of def at node) (advance_skips def at node)
  unfolding advance_skips
  own-skips =
      either (eqb node.kind 8)
      (λ e. rw e (told.aligns (eqb-true node.kind 8 e) (skipping-told def at node.number node.index (advanced_of def at node))))
      (λ e. rw (e, none-skipped (advanced_of def at node)) (told.other (eqb-false node.kind 8 e)))
