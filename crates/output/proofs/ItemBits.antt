-- Theorems about what ItemBits defines.
use Rattle.std.specs.Prelude.{◌≡◌, refl, true, ◌⊎◌, ℕ, ◌+◌, ◌*◌, ◌≤◌, ◌<◌, length, Some, Option, None}
use Rattle.std.proofs.Common.{ap, subst, ◌∙◌, inl, inr, ⊎_elim, le_trans}
use mathlib.Core.List.Memᴰ
use mathlib.Core.List.{List, Memᴰ}
use Rattle.bankdef.specs.Check.{banks_of}
use Rattle.iter.specs.Address.{out_at}
use Rattle.nodes.specs.declared.Node.{Node}
use Rattle.bitvec.specs.Bits.{bit_at}
use Rattle.blocks.specs.Bits.{NoSharedBit}
use Rattle.build_visits.specs.declared.Visit.{Visit}
use Rattle.build_visits.specs.Visits.{position_of}
use Rattle.build_visits.specs.Laws.VisitLaws.{member-visit, each_from}
use Rattle.build_visits.specs.Items.{Item, end_of, InItem, is_written, standing, item_of, image_of}
use Rattle.build_visits.specs.Laws.ItemLaws.{fill-within, end-within, bit-of-none, bit-of-item}
use Rattle.build_visits.specs.Theorems.ItemLaws.{length-is-one}
use Rattle.build_write.specs.Laws.Blank.{blank-length}
use Rattle.build_plan.specs.Laws.PlacingLaws.{picked-some, holds-apart, each-apart}
use Rattle.build_plan.specs.PlacingLaws.{OfferedBit}
use Rattle.output.specs.Output.{Lent}
use Rattle.output.specs.Calls.{Accepted, nodes_in, visit_in, visits_in, items_in, values_in, program_in, row_in, closed_in}
use Rattle.output.proofs.Calls.{fine, blank_in, left_is}
use Rattle.output.specs.ItemBits.{fill_in, item_for}
use Rattle.output.specs.Laws.ItemBits.{item-offered, one-item}

module _ (b : Accepted) where
  -- And every item is a written node's.
  pub item-has-written-node : (x : Item) → Memᴰ x (items_in b.call)
      → (n : ℕ) × (n < nodes_in b.call) × (is_written (visit_in b.call n).node ≡ true)
      × (offset : ℕ) × ((visit_in b.call n).def.offset ≡ Some offset) × (x ≡ item_for (visit_in b.call n) offset)
  item-has-written-node x m =
      let (v, mv, mx) = each_from item_of (visits_in b.call) m in
      let (n, low, same) = member-visit (program_in b.call) (row_in b.call) (nodes_in b.call) mv in
      let here = subst (λ (u : Visit). Memᴰ x (item_of u)) same mx in
      let w = picked-some (is_written (visit_in b.call n).node) (standing (visit_in b.call n).out (visit_in b.call n).node) here in
      let (f, e, is) = from_out (visit_in b.call n).def.offset (position_of (visit_in b.call n)) (visit_in b.call n).node w.1 in
      (n, low, w.0, f, e, is)
    where
      from_out : (o : Option ℕ) (position : ℕ) (y : Node) → Memᴰ x (standing (out_at o position) y)
          → (f : ℕ) × (o ≡ Some f) × (x ≡ record { at = f + position; size = y.number; from = y.operand })
      from_out None position y k = absurd (Memᴰ.not-nil k)
      from_out (Some f) position y k = (f, refl, Memᴰ.eq_of_singleton k)

  visits-apart : NoSharedBit OfferedBit (visits_in b.call)
  visits-apart = (holds-apart (closed_in b.call) _ (fine b).state (visits_in b.call) (fine b).placed).offered

  -- No two written items share a bit.
  pub items-share-no-bit : NoSharedBit InItem (items_in b.call)
  items-share-no-bit = each-apart item_of InItem one-item item-offered (visits_in b.call) visits-apart

  -- "Image length is the larger of the fill's and the furthest end of a written item": no less than either,
  pub length-not-below-fill : fill_in b.call ≤ b.bits
  length-not-below-fill = rw (fine b).reach (fill-within (fill_in b.call) (items_in b.call))

  pub length-not-below-item : (x : Item) → Memᴰ x (items_in b.call) → end_of x ≤ b.bits
  length-not-below-item x m = rw (fine b).reach (end-within (fill_in b.call) m)

  -- and no more.
  pub length-is-fill-or-end : (b.bits ≡ fill_in b.call) ⊎ ((x : Item) × Memᴰ x (items_in b.call) × (b.bits ≡ end_of x))
  length-is-fill-or-end =
      ⊎_elim
      (λ e. inl ((fine b).reach ∙ e))
      (λ (r : (x : Item) × Memᴰ x (items_in b.call) × (_ ≡ end_of x)). inr (r.0, r.1, (fine b).reach ∙ r.2))
      (length-is-one (fill_in b.call) (items_in b.call))

  -- every bit of the image's length is in the lent image
  pub length-fits : b.bits ≤ 8 * length b.call.old.image
  length-fits = (fine b).wide

  pub image-is : b.call.new.image ≡ image_of (values_in b.call) (blank_in b) (items_in b.call)
  image-is = ap (λ (l : Lent). l.image) (left_is b)

  -- Each bit of a written item is its own: the image's bit at its place plus j is value bit `from` plus j.
  pub item-own-bit : (x : Item) → Memᴰ x (items_in b.call) → (j : ℕ) → j < x.size
      → bit_at b.call.new.image (x.at + j) ≡ bit_at (values_in b.call) (x.from + j)
  item-own-bit x m j h =
      ap (λ (l : List ℕ). bit_at l (x.at + j)) image-is
      ∙ bit-of-item (values_in b.call) (blank_in b) (items_in b.call) items-share-no-bit m
      (rw (blank-length (banks_of b.call.given.banks) b.bits (length b.call.old.image)) (le_trans (length-not-below-item x m) length-fits)) j h

  -- Every bit of the lent image that belongs to no written item is the blank's (Gaps has which that is).
  pub rest-blank : (bit : ℕ) → ((x : Item) → Memᴰ x (items_in b.call) → InItem bit x → ⊥) → bit_at b.call.new.image bit ≡ bit_at (blank_in b) bit
  rest-blank bit none =
      ap (λ (l : List ℕ). bit_at l bit) image-is ∙ bit-of-none (values_in b.call) (blank_in b) (items_in b.call) bit none
