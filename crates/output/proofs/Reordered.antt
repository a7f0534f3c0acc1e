-- Theorems about what Reordered defines.
use Rattle.std.specs.Prelude.{◌≡◌, refl, List, ℕ, max, length}
use Rattle.std.proofs.Common.{sym, ap, ◌∙◌}
use mathlib.Core.List.Memᴰ
use mathlib.Core.List.{Permᴰ}
use Rattle.bankdef.specs.Check.{banks_of}
use Rattle.bankdef.specs.Fill.{fill_by}
use Rattle.bankdef.specs.declared.Bankdefs.{Bankdefs}
use Rattle.bitvec.specs.Theorems.Written.{accepted-written}
use Rattle.blocks.specs.Bits.{NoSharedBit}
use Rattle.build_visits.specs.Items.{Item, end_of, InItem, length_of, image_of}
use Rattle.build_write.specs.Blank.{blank_of}
use Rattle.output.specs.Laws.ReorderLaws.{put, put-swap, max-swap, apart-reordered}
use Rattle.output.specs.Output.{Lent}
use Rattle.output.specs.Calls.{Accepted, items_in, values_in}
use Rattle.output.proofs.Calls.{fine, blank_in, left_is}
use Rattle.output.specs.ItemBits.{fill_in}
use Rattle.output.proofs.ItemBits.{items-share-no-bit}
use Rattle.output.specs.Reordered.{WrittenInTurn, none_left, one_then}

-- ---- lists of items

-- "Image length is the larger of the fill's and the furthest end of a written item": the same in every order, items that share bits too.
pub reordered-items-same-length : (fill : ℕ) {items items' : List Item} → Permᴰ items items' → length_of fill items ≡ length_of fill items'
unfolding length_of
reordered-items-same-length fill Permᴰ.nil = refl
reordered-items-same-length fill (Permᴰ.cons {a = a} {l₂ = l} e d) =
    reordered-items-same-length (max fill (end_of a)) d ∙ ap (λ (z : Item). length_of (max fill (end_of z)) l) e
reordered-items-same-length fill (Permᴰ.swap {a = a} {b = b} {a' = c} {l = l} e g) =
    ap (λ (n : ℕ). length_of n l) (max-swap fill (end_of a) (end_of b))
    ∙ ap (λ (z : Item). length_of (max (max fill (end_of z)) (end_of a)) l) g
    ∙ ap (λ (z : Item). length_of (max (max fill (end_of c)) (end_of z)) l) e
reordered-items-same-length fill (Permᴰ.trans p q) = reordered-items-same-length fill p ∙ reordered-items-same-length fill q

-- "Writing the accepted items' bits in any order gives the same image": whatever the image was before, for items no two of which share a bit.
pub reordered-items-same-image : (values blank : List ℕ) {items items' : List Item} → Permᴰ items items' → NoSharedBit InItem items
    → image_of values blank items ≡ image_of values blank items'
unfolding image_of
reordered-items-same-image values blank Permᴰ.nil apart = refl
reordered-items-same-image values blank (Permᴰ.cons {a = a} {l₂ = l} e d) apart =
    reordered-items-same-image values (put values blank a) d apart.1 ∙ ap (λ (z : Item). image_of values (put values blank z) l) e
reordered-items-same-image values blank (Permᴰ.swap {a = a} {b = b} {a' = c} {l = l} e g) apart =
    ap (λ (image : List ℕ). image_of values image l) (put-swap values blank a b (λ bit i j. apart.0 bit i (b, Memᴰ.head refl, j)))
    ∙ ap (λ (z : Item). image_of values (put values (put values blank z) a) l) g
    ∙ ap (λ (z : Item). image_of values (put values (put values blank c) z) l) e
reordered-items-same-image values blank (Permᴰ.trans p q) apart =
    reordered-items-same-image values blank p apart ∙ reordered-items-same-image values blank q (apart-reordered InItem p apart)

-- They leave the image of these items.
pub writes-leave-image : {values image last : List ℕ} {items : List Item} → WrittenInTurn values image items last → last ≡ image_of values image items
unfolding image_of
writes-leave-image none_left = refl
writes-leave-image {values} (one_then {image = image} {next = next} {x = x} {l = l} call rest) =
    writes-leave-image rest
    ∙ ap (λ (i : List ℕ). image_of values i l) (accepted-written image x.at values x.from x.size next call)

-- "Writing the accepted items' bits in any order gives the same image": two runs of such calls from one image.
pub reordered-writes-same-image : {values image last last' : List ℕ} {items items' : List Item} → Permᴰ items items' → NoSharedBit InItem items
    → WrittenInTurn values image items last → WrittenInTurn values image items' last' → last ≡ last'
reordered-writes-same-image {values} {image} p apart w w' =
    writes-leave-image w ∙ reordered-items-same-image values image p apart ∙ sym (writes-leave-image w')

-- ---- two accepted builds

-- Two accepted builds whose written items (output position, size, starting bit) are the same in some order.
module _ (a b : Accepted) (order : Permᴰ (items_in a.call) (items_in b.call)) where
  -- Over the same banks and with the same fill chosen they give the same length.
  pub reordered-builds-same-length : a.call.given.banks ≡ b.call.given.banks → a.call.given.choices.fill ≡ b.call.given.choices.fill
      → a.bits ≡ b.bits
  reordered-builds-same-length banks fill =
      (fine a).reach ∙ reordered-items-same-length (fill_in a.call) order
      ∙ ap (λ (d : Bankdefs). length_of (fill_by a.call.given.choices.fill (banks_of d)) (items_in b.call)) banks
      ∙ ap (λ (choice : ℕ). length_of (fill_by choice (banks_of b.call.given.banks)) (items_in b.call)) fill ∙ sym (fine b).reach

  -- "Writing the accepted items' bits in any order gives the same image": over the same banks, fill chosen and value bytes, and with as many bytes
  -- lent, they leave the same image, to the last byte lent.
  pub reordered-builds-same-image : a.call.given.banks ≡ b.call.given.banks → a.call.given.choices.fill ≡ b.call.given.choices.fill
      → values_in a.call ≡ values_in b.call → length a.call.old.image ≡ length b.call.old.image → a.call.new.image ≡ b.call.new.image
  reordered-builds-same-image banks fill values lent =
      ap (λ (l : Lent). l.image) (left_is a)
      ∙ reordered-items-same-image (values_in a.call) (blank_in a) order (items-share-no-bit a)
      ∙ ap (λ (v : List ℕ). image_of v (blank_in a) (items_in b.call)) values
      ∙ ap (λ (blank : List ℕ). image_of (values_in b.call) blank (items_in b.call)) same-blank
      ∙ sym (ap (λ (l : Lent). l.image) (left_is b))
    where
      same-blank : blank_in a ≡ blank_in b
      same-blank =
          ap (λ (d : Bankdefs). blank_of (banks_of d) a.bits (length a.call.old.image)) banks
          ∙ ap (λ (n : ℕ). blank_of (banks_of b.call.given.banks) n (length a.call.old.image)) (reordered-builds-same-length banks fill)
          ∙ ap (λ (n : ℕ). blank_of (banks_of b.call.given.banks) b.bits n) lent
