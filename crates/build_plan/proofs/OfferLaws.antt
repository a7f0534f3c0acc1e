-- What a node offers and writes, for each of its ways: nothing, or one interval and one item; and what that leaves in the store.
use Rattle.std.specs.Prelude.{None, Option, Some, Err, Result, Ok}
use mathlib.Core.Path.{◌≡◌, refl, sym, ap, ◌∙◌}
use mathlib.Core.Bool.{Bool, true, false, ◌||◌}
use mathlib.Core.List.{List, [], ◌∷◌}
use Prim.Native.Nat.{ℕ, ◌+◌, max}
use lib.Dec.{eqb}
use Rattle.prelude.specs.Laws.Bools.{unlike, or_else}
use Rattle.prelude.specs.Pick.{pick}
use Rattle.prelude.specs.Laws.Pick.{pick_true, pick-false}
use Rattle.prelude.specs.declared.Refusal.{Refusal}
use Rattle.prelude.specs.Verdict.{Accepted, Verdict}
use Rattle.bankdef.specs.declared.Bankdef.{Bankdef}
use Rattle.iter.specs.declared.Pos.{Pos}
use Rattle.nodes.specs.declared.Node.{Node}
use Rattle.nodes.specs.Lists.{first_of}
use Rattle.overlap_checker.specs.declared.Entry.{Entry}
use Rattle.overlap_checker.specs.Interval.{interval, Within}
use Rattle.overlap_checker.specs.State.{State, answer}
use Rattle.overlap_checker.specs.Folds.{state_after}
use Rattle.overlap_checker.specs.Lent.{Lent as Store, Sound, Offers}
use Rattle.overlap_checker.proofs.Going.{state-after, sound-after}
use Rattle.build_visits.specs.Items.{Item, is_written, standing, item_at, length_of}
use Rattle.build_plan.specs.Placing.{is_placed, is_offered, bits_at, offer_at, checked, answered, tried, verdict_seen}
use Rattle.build_plan.specs.Steps.{Goes}

-- ---- what a node offers

nothing-picked : {X : Type 0} (b : Bool) → ◌≡◌ {A = List X} (pick b [] []) []
nothing-picked true = refl
nothing-picked false = refl

module _ (n : Node) where
  pub offers-nowhere : offer_at n None ≡ []
  offers-nowhere = nothing-picked (is_offered n)

  pub offers-none : (out : Option ℕ) → is_offered n ≡ false → offer_at n out ≡ []
  offers-none out e = pick-false (bits_at out n) [] e

  -- a label makes no offer
  pub offers-label : (out : Option ℕ) → n.kind ≡ 2 → offer_at n out ≡ []
  offers-label out e = offers-none out (rw e)

  pub offers-unplaced : (out : Option ℕ) → is_placed n ≡ false → offer_at n out ≡ []
  offers-unplaced out e = offers-none out (unplaced (eqb n.kind 2) (is_offered n) e)
    where
      unplaced : (a b : Bool) → (a || b) ≡ false → b ≡ false
      unplaced true b f = absurd (mathlib.Core.Bool.true≢false f)
      unplaced false b f = f

  -- a placed node that is no label does
  pub offers-one : (o : ℕ) → is_placed n ≡ true → eqb n.kind 2 ≡ false → offer_at n (Some o) ≡ interval o n.number ∷ []
  offers-one o placed other = pick_true (bits_at (Some o) n) [] (or_else (eqb n.kind 2) (is_offered n) other placed)

-- ---- what that leaves in the store

module _ (a : Store) where
  pub goes_none : (offer : List Entry) → Sound a → offer ≡ [] → Goes a offer Accepted a
  unfolding state_after
  goes_none offer s none = record { state = λ _. rw none; sound = s; left = rw none }

  pub goes-refused : (offer : List Entry) (why : Refusal) → Sound a → Goes a offer (Err why) a
  goes-refused offer why s = record { state = λ e. absurd (never e); sound = s; left = refl }
    where
      never : Err why ≡ Accepted → ⊥
      never e = unlike cc

  pub goes-offered : (e : Entry) (node : ℕ) (offer : List Entry) → offer ≡ e ∷ [] → Sound a → Within e → (r : Verdict) (b : Store)
      → Offers a e node r b → Goes a offer r b
  unfolding state_after
  goes-offered e node offer made s within r b o =
      record { state = λ _. state-after a e node r b s o ∙ rw made; sound = sound-after a e node r b s o within; left = rw made o.left }

pub answered-none : (s : State) (node : ℕ) (offer : List Entry) → offer ≡ [] → Accepted ≡ answered s node offer
answered-none s node offer none = rw none

pub answered-one : (s : State) (e : Entry) (node : ℕ) (offer : List Entry) → offer ≡ e ∷ [] → (r : Verdict) → r ≡ answer s e node
    → r ≡ answered s node offer
answered-one s e node offer made r same = rw made same

-- ---- the verdict on a node

module _ (closed : Bool) (bank : ℕ) (def : Bankdef) (s : State) (n : Node) (out : Option ℕ) (seen : Result Pos Refusal) where
  pub verdict-stopped : (why : Refusal) → seen ≡ Err why → Err why ≡ verdict_seen closed bank def s n out seen
  verdict-stopped why e = rw e

  module _ (at : Pos) (e : seen ≡ Ok at) where
    pub verdict-unplaced : is_placed n ≡ false → Accepted ≡ verdict_seen closed bank def s n out seen
    verdict-unplaced none = sym (ap (verdict_seen closed bank def s n out) e ∙ pick-false (tried closed bank def s n at out) Accepted none)

    module _ (placed : is_placed n ≡ true) (v : Verdict) (checks : v ≡ checked closed bank def n at out) where
      reads : verdict_seen closed bank def s n out seen ≡ first_of v (answered s n.index (offer_at n out))
      reads =
          ap (verdict_seen closed bank def s n out) e
          ∙ pick_true (tried closed bank def s n at out) Accepted placed
          ∙ ap (λ (w : Verdict). first_of w (answered s n.index (offer_at n out))) (sym checks)

      pub verdict-checked : (why : Refusal) → v ≡ Err why → Err why ≡ verdict_seen closed bank def s n out seen
      verdict-checked why r = sym (reads ∙ ap (λ (w : Verdict). first_of w (answered s n.index (offer_at n out))) r)

      pub verdict-offered : v ≡ Accepted → (r : Verdict) → r ≡ answered s n.index (offer_at n out) → r ≡ verdict_seen closed bank def s n out seen
      verdict-offered a r o = o ∙ sym (reads ∙ ap (λ (w : Verdict). first_of w (answered s n.index (offer_at n out))) a)

-- ---- the image's length after a node

module _ (n : Node) (out : Option ℕ) (reach : ℕ) where
  pub length-other : is_written n ≡ false → reach ≡ length_of reach (item_at n out)
  unfolding length_of
  length-other e = rw (pick-false (standing out n) [] e)

  pub length-nowhere : out ≡ None → reach ≡ length_of reach (item_at n out)
  unfolding length_of
  length-nowhere none = rw (none, nothing-picked {X = Item} (is_written n))

  pub length_at : is_written n ≡ true → (o : ℕ) → out ≡ Some o → (new : ℕ) → new ≡ max reach (o + n.number) → new ≡ length_of reach (item_at n out)
  unfolding length_of
  length_at e o at new same = rw (at, e) same
