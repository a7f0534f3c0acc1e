-- What the build writes, item by item, is what the sentences call a written item: where it stands, its size, its starting bit.
use Rattle.std.specs.Prelude.{◌≡◌, refl, Bool, true, false, ℕ, ◌+◌, ◌≤◌, ◌<◌, Some, Option, None}
use Rattle.std.proofs.Common.{sym, ap, subst, ◌∙◌, arith}
use mathlib.Core.List.Memᴰ
use mathlib.Core.List.{List, [], ◌∷◌, Memᴰ}
use Rattle.prelude.specs.Pick.{pick}
use Rattle.bankdef.specs.declared.Bankdefs.{Bankdefs}
use Rattle.iter.specs.Address.{out_at}
use Rattle.build_plan.specs.Theorems.Kinds.{written-exactly}
use Rattle.resolver.specs.Layout.{Checked}
use Rattle.build_visits.specs.Items.{Item, is_written, standing, item_of, items_of}
use Rattle.build_visits.specs.Laws.VisitLaws.{each_member, each_from, visit-member, member-visit}
use Rattle.build_visits.specs.Visits.{position_of, visits_to}
use Rattle.build_visits.specs.declared.Visit.{Visit}
use Rattle.says.specs.Build as says
use Rattle.says.specs.Build.{Given, nodes, kind, operand, Offset, IsWritten, Offer}
use Rattle.meets_sentences.specs.Laws.One.{number-one, sees-one}
use Rattle.meets_build.specs.Laws.Shown.{Shown, Tells, listed, walked, row_no, number_is}
use Rattle.meets_build.specs.Laws.Walk.{Goes, tells-here}
use Rattle.meets_build.specs.Laws.Visited.{visited, sees-visited}

abbrev pub item_at : (x m from : ℕ) → Item
item_at x m from = record { at = x; size = m; from = from }

module _ (g : Given) (tab : Bankdefs) (shown : Shown g tab) (c : Checked tab (listed g) g.fill) (r : ℕ) (all : Goes g tab shown c r (nodes g)) where
  module _ (i : ℕ) (h : i < nodes g) where
    abbrev v : Visit
    v = visited g tab shown c r all i h

    tells : Tells g v.bank v.def
    tells = tells-here g tab shown c r i h (λ j k. all j (omega arith))

    item-there : (o : ℕ) → v.def.offset ≡ Some o → IsWritten g i → item_of v ≡ item_at (o + position_of v) v.node.number (operand g i) ∷ []
    item-there o e w =
        ap (λ (t : Bool). pick t (standing v.out v.node) []) ((written-exactly v.node).1 w)
        ∙ ap (λ (x : Option ℕ). standing (out_at x (position_of v)) v.node) e

    -- A written item by the sentences is written so,
    pub item-when : {x m : ℕ} → IsWritten g i → Offer g r i x m → item_of v ≡ item_at x m (operand g i) ∷ []
    item-when w (says.offer {o = o} listed-i k l sight offset number) =
        let same = sees-one g sight (sees-visited g tab shown c r all i h) in
        let o_is = tells.has-offset o (subst (λ (y : ℕ). Offset g y o) same.0 offset) in
        item-there o o_is w ∙ same_item o (sym same.1) (number-one g (number_is g tab r i h) number)
      where
        same_item : (o : ℕ) {p q n m : ℕ} → q ≡ p → n ≡ m → item_at (o + q) n (operand g i) ∷ [] ≡ item_at (o + p) m (operand g i) ∷ []
        same_item o e f = rw (e, f)

    -- what is written of node i, by the sentences
    abbrev pub ItemIs : Item → Type 0
    ItemIs x = IsWritten g i × Offer g r i x.at x.size × (x.from ≡ operand g i)

    -- and what is written is one.
    pub item-only : (x : Item) → Memᴰ x (item_of v) → ItemIs x
    item-only x m = by_kind (is_written v.node) refl m
      where
        made : (k : IsWritten g i) (o : Option ℕ) → v.def.offset ≡ o → Memᴰ x (standing (out_at o (position_of v)) v.node) → ItemIs x
        made k None q m = absurd (Memᴰ.not-nil m)
        made k (Some o) q m =
            subst ItemIs (sym (Memᴰ.eq_of_singleton m))
            (k, says.offer h k.0 (omega (arith, k.1)) (sees-visited g tab shown c r all i h) (tells.placed o q) (number_is g tab r i h), refl)

        by_kind : (t : Bool) → is_written v.node ≡ t → Memᴰ x (pick t (standing v.out v.node) []) → ItemIs x
        by_kind true t m = made ((written-exactly v.node).0 t) v.def.offset refl m
        by_kind false t m = absurd (Memᴰ.not-nil m)

  abbrev pub items : List Item
  items = items_of (visits_to (walked g tab) (row_no g tab r) (nodes g))

  -- the same of the whole row
  pub item-member : {i x m : ℕ} → i < nodes g → IsWritten g i → Offer g r i x m → Memᴰ (item_at x m (operand g i)) items
  item-member {i} {x} {m} h w o =
      each_member item_of (visit-member (walked g tab) (row_no g tab r) (nodes g) i h)
      (subst (Memᴰ (item_at x m (operand g i))) (sym (item-when i h w o)) (Memᴰ.head refl))

  pub member-item : (x : Item) → Memᴰ x items → (i : ℕ) × (h : i < nodes g) × ItemIs i h x
  member-item x m =
      let f = each_from item_of (visits_to (walked g tab) (row_no g tab r) (nodes g)) m in
      let w = member-visit (walked g tab) (row_no g tab r) (nodes g) f.1 in
      (w.0, w.1, item-only w.0 w.1 x (subst (λ (u : Visit). Memᴰ x (item_of u)) w.2 f.2))
