-- Laws that Theorems/ItemBits rests on.
use Rattle.std.specs.Prelude.{◌≡◌, refl, Bool, true, false, ℕ, Option, None, Some}
use Rattle.std.proofs.Common.{sym, subst}
use mathlib.Core.List.Memᴰ
use mathlib.Core.List.{List, [], Memᴰ}
use Rattle.prelude.specs.Laws.Bools.{or_left}
use Rattle.prelude.specs.Pick.{pick}
use Rattle.prelude.specs.Laws.Pick.{pick_true}
use Rattle.nodes.specs.declared.Node.{Node}
use Rattle.blocks.specs.Bits.{NoSharedBit}
use Rattle.overlap_checker.specs.declared.Entry.{Entry}
use Rattle.overlap_checker.specs.Interval.{Covers}
use Rattle.build_visits.specs.declared.Visit.{Visit}
use Rattle.build_visits.specs.Items.{Item, InItem, is_written, standing, item_of}
use Rattle.build_plan.specs.Placing.{is_offered, is_reserve, bits_at, offer_of}
use Rattle.build_plan.specs.Laws.PlacingLaws.{picked-some, apart-one}
use Rattle.build_plan.specs.PlacingLaws.{OfferedBit}

-- ---- bits of items and of reserves are offered

pub offered : (v : Visit) {e : Entry} → is_offered v.node ≡ true → Memᴰ e (bits_at v.out v.node) → Memᴰ e (offer_of v)
offered v {e} o m = subst (λ (l : List Entry). Memᴰ e l) (sym (pick_true (bits_at v.out v.node) [] o)) m

standing-bits : (out : Option ℕ) (n : Node) (bit : ℕ) (x : Item) → Memᴰ x (standing out n) → InItem bit x
    → (e : Entry) × Memᴰ e (bits_at out n) × Covers e bit
standing-bits None n bit x m i = absurd (Memᴰ.not-nil m)
standing-bits (Some o) n bit x m i = (_, Memᴰ.head refl, subst (λ (y : Item). InItem bit y) (Memᴰ.eq_of_singleton m) i)

pub item-offered : (bit : ℕ) (v : Visit) (x : Item) → Memᴰ x (item_of v) → InItem bit x → OfferedBit bit v
item-offered bit v x m i =
    let w = picked-some (is_written v.node) (standing v.out v.node) m in
    let (e, me, c) = standing-bits v.out v.node bit x w.1 i in
    (e, offered v (or_left (is_written v.node) (is_reserve v.node) w.0) me, c)

pub one-item : (v : Visit) → NoSharedBit InItem (item_of v)
one-item v = go v.out (is_written v.node)
  where
    go : (out : Option ℕ) (b : Bool) → NoSharedBit InItem (pick b (standing out v.node) [])
    go None true = tt
    go None false = tt
    go (Some o) b = apart-one InItem b _
