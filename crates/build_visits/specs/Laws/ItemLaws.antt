-- Laws that Theorems/ItemLaws rests on.
use Rattle.std.specs.Prelude.{◌≡◌, ℕ, ◌+◌, ◌-◌, ◌*◌, ◌/◌, ◌%◌, ◌^◌, ◌≤◌, ◌<◌, max, length, get_or, replicate}
use Rattle.std.proofs.Math.Path.{refl, sym, subst}
use Rattle.std.proofs.Common.{◌∙◌}
use mathlib.Core.List.{List, [], ◌∷◌, ◌++◌, Memᴰ}
use Rattle.std.proofs.Math.Decide.{dec_lt}
use Rattle.std.proofs.Math.Nat.{zero-div}
use native.Mathlib.Omega.{arith}
use Rattle.std.proofs.lemmas.List.{length-replicate, get_or-replicate}
use Rattle.std.proofs.Math.ListN.{get_or-eq_default}
use Rattle.bitvec.specs.Bits.{bit_at, Bytes}
use Rattle.bitvec.specs.Written.{written, written_bit}
use Rattle.bitvec.specs.Theorems.Written.{bit_at-written, written-own, written-other, length-written}
use Rattle.blocks.specs.Bits.{NoSharedBit}
use Rattle.build_visits.specs.Items.{Item, end_of, InItem, length_of, image_of}

-- ---- the length

pub length-append : (fill : ℕ) (k l : List Item) → length_of fill (k ++ l) ≡ length_of (length_of fill k) l
unfolding length_of
length-append fill [] l = refl
length-append fill (x ∷ k) l = length-append (max fill (end_of x)) k l

-- not less than the fill's, nor than any item's end
pub fill-within : (fill : ℕ) (l : List Item) → fill ≤ length_of fill l
unfolding length_of
fill-within fill [] = omega arith
fill-within fill (x ∷ l) = omega (arith, fill-within (max fill (end_of x)) l)

pub end-within : {x : Item} (fill : ℕ) {l : List Item} → Memᴰ x l → end_of x ≤ length_of fill l
unfolding length_of
end-within {x = x} fill (Memᴰ.head {x = y} {xs = l} e) =
    subst (λ (z : Item). end_of z ≤ length_of (max fill (end_of y)) l) (sym e) (omega (arith, fill-within (max fill (end_of y)) l))
end-within fill (Memᴰ.tail {x = y} m) = end-within (max fill (end_of y)) m

-- ---- the image

module _ (values : List ℕ) where
  pub image-append : (blank : List ℕ) (k l : List Item) → image_of values blank (k ++ l) ≡ image_of values (image_of values blank k) l
  unfolding image_of
  image-append blank [] l = refl
  image-append blank (x ∷ k) l = image-append (written blank x.at values x.from x.size) k l

  -- it keeps its length
  pub image-length : (blank : List ℕ) (l : List Item) → length (image_of values blank l) ≡ length blank
  unfolding image_of
  image-length blank [] = refl
  image-length blank (x ∷ l) =
      image-length (written blank x.at values x.from x.size) l ∙ length-written blank x.at values x.from x.size

  -- a bit is the same over two blanks that have it alike
  same-written : (blank other : List ℕ) (x : Item) (k : ℕ) → bit_at blank k ≡ bit_at other k
      → written_bit blank x.at values x.from x.size k ≡ written_bit other x.at values x.from x.size k
  unfolding written_bit
  same-written blank other x k e = rw e

  pub image-agrees : (blank other : List ℕ) (l : List Item) (k : ℕ) → k < 8 * length blank → k < 8 * length other → bit_at blank k ≡ bit_at other k
      → bit_at (image_of values blank l) k ≡ bit_at (image_of values other l) k
  unfolding image_of
  image-agrees blank other [] k h m e = e
  image-agrees blank other (x ∷ l) k h m e =
      image-agrees (written blank x.at values x.from x.size) (written other x.at values x.from x.size) l k
      (rw (length-written blank x.at values x.from x.size) h) (rw (length-written other x.at values x.from x.size) m)
      (bit_at-written blank x.at values x.from x.size k h
      ∙ same-written blank other x k e
      ∙ sym (bit_at-written other x.at values x.from x.size k m))

  -- a bit of no item is the blank's
  pub bit-of-none : (blank : List ℕ) (l : List Item) (bit : ℕ) → ((x : Item) → Memᴰ x l → InItem bit x → ⊥)
      → bit_at (image_of values blank l) bit ≡ bit_at blank bit
  unfolding image_of
  bit-of-none blank [] bit none = refl
  bit-of-none blank (x ∷ l) bit none =
      bit-of-none (written blank x.at values x.from x.size) l bit (λ y m. none y (Memᴰ.tail m))
      ∙ written-other blank x.at values x.from x.size bit (λ low high. none x (Memᴰ.head refl) (low, high))

  -- a bit of an item is that item's own, where no other item has it and the item ends within the image
  pub bit-of-item : {x : Item} (blank : List ℕ) (l : List Item) → NoSharedBit InItem l → Memᴰ x l → end_of x ≤ 8 * length blank
      → (j : ℕ) → j < x.size → bit_at (image_of values blank l) (x.at + j) ≡ bit_at values (x.from + j)
  unfolding image_of
  bit-of-item {x} blank l apart (Memᴰ.head {x = y} {xs = k} e) fits j h =
      let same : y ≡ x = sym e in
      bit-of-none (written blank y.at values y.from y.size) k (x.at + j)
      (λ z m covered. apart.0 (x.at + j) (subst (λ (w : Item). InItem (x.at + j) w) e (omega arith, omega arith)) (z, m, covered))
      ∙ subst (λ (w : Item). bit_at (written blank w.at values w.from w.size) (x.at + j) ≡ bit_at values (x.from + j)) e
      (written-own blank x.at values x.from x.size fits j h)
  bit-of-item {x} blank l apart (Memᴰ.tail {x = y} {xs = k} m) fits j h =
      bit-of-item (written blank y.at values y.from y.size) k apart.1 m
      (subst (λ (n : ℕ). end_of x ≤ 8 * n) (sym (length-written blank y.at values y.from y.size)) fits) j h

-- ---- zeros

module _ (bytes : ℕ) where
  zero-byte : (j : ℕ) → ◌≡◌ {A = ℕ} (get_or (replicate bytes 0) j 0) 0
  zero-byte j =
      elim (dec_lt j bytes) [
        | yes h ↦ get_or-replicate bytes j 0 0 h
        | no h ↦ get_or-eq_default (replicate bytes 0) 0 (rw (length-replicate {A = ℕ} bytes 0) (omega arith))
      ]

  pub zeros-bytes : Bytes (replicate bytes 0)
  zeros-bytes j = rw (zero-byte j) (omega arith)

  -- they have no bit set
  pub zeros-bit : (k : ℕ) → bit_at (replicate bytes 0) k ≡ 0
  unfolding bit_at
  zeros-bit k = rw (zero-byte (k / 8)) (rw (zero-div (2 ^ (8 - 1 - k % 8))) refl)
