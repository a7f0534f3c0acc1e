-- Theorems about what Bytes defines.
use Rattle.std.specs.Prelude.{◌≡◌, ℕ, ◌+◌, ◌-◌, ◌/◌, ◌<◌, ◌≤◌, min, true, ◌↔◌, List, [], ◌∷◌, length, drop, slice_index, refl}
use Rattle.std.proofs.Common.{ap, ◌∙◌, ⊎_elim, le_refl, arith, length-take, length-drop, get_or-take, get_or-drop}
use mathlib.Core.List.Memᴰ
use mathlib.Core.List.{Memᴰ}
use Rattle.bitvec.specs.Theorems.Part.{is_part-true}
use Rattle.blocks.specs.declared.Block.{Block}
use Rattle.record_lines.specs.Pieces.{GivesAt}
use Rattle.record_write.specs.Checks.{all_parts}
use Rattle.record_write.specs.Cut.{cut, bytes_in, pieces_of}
use Rattle.record_write.specs.Bytes.{BlockByte, Covers}
use Rattle.record_write.specs.Laws.Bytes.{cut-in-gives, given-is-block-byte, in-longer, moved, part-of-all}

-- Byte j of bytes that are cut from an address on stands j behind that address.
pub cut-gives : (a : ℕ) (l : List ℕ) (j : ℕ) → j < length l → GivesAt (cut a l) (a + j) (slice_index l j)
cut-gives a l j h = cut-in-gives (length l) a l (le_refl (length l)) j h

block-gives : (load : ℕ) (image : List ℕ) (blocks : List Block) (b : Block) → Memᴰ b blocks → (j : ℕ) → j < length (bytes_in image b)
    → GivesAt (pieces_of load image blocks) (load + b.origin / 8 + j) (slice_index (bytes_in image b) j)
unfolding pieces_of
block-gives load image [] b m j h = absurd (Memᴰ.not-nil m)
block-gives load image (d ∷ l) b m j h =
    let first = cut (load + d.origin / 8) (bytes_in image d) in
    ⊎_elim
    (λ e. rw e (in-longer (λ p k. Memᴰ.append_left (pieces_of load image l) k) (cut-gives (load + d.origin / 8) (bytes_in image d) j (rw e at h))))
    (λ k. in-longer (λ p q. Memᴰ.append_right first q) (block-gives load image l b k j h))
    (Memᴰ.cases_cons m)

-- The image's own byte.
pub image-byte-stands : (load : ℕ) (image : List ℕ) (blocks : List Block) (b : Block) → Memᴰ b blocks → b.origin / 8 + b.size / 8 ≤ length image
    → (j : ℕ) → j < b.size / 8 → GivesAt (pieces_of load image blocks) (load + b.origin / 8 + j) (slice_index image (b.origin / 8 + j))
image-byte-stands load image blocks b m fits j h =
    let long : length (bytes_in image b) ≡ b.size / 8 =
    length-take (b.size / 8) (drop (b.origin / 8) image) ∙ ap (min (b.size / 8)) (length-drop (b.origin / 8) image) ∙ omega arith in
    moved refl (get_or-take (b.size / 8) (drop (b.origin / 8) image) j 0 h ∙ get_or-drop (b.origin / 8) image j 0)
    (block-gives load image blocks b m j (omega (arith, long)))

-- The pieces give a byte at an address exactly when it is the byte of a block that goes there: nothing is left out, and nothing else is written.
pub pieces-give-exactly : (load : ℕ) (image : List ℕ) (blocks : List Block) → all_parts (length image) blocks ≡ true → (a b : ℕ)
    → GivesAt (pieces_of load image blocks) a b ↔ BlockByte load image blocks a b
pieces-give-exactly load image blocks parts a b = (
  given-is-block-byte load image blocks a b,
  λ y.
      let d = y.of in
      let p = is_part-true (length image) d.origin d.size (part-of-all (length image) blocks parts d y.among) in
      let starts = p.starts in
      let ends = p.ends in
      let inside = p.inside in
      let fits : d.origin / 8 + d.size / 8 ≤ length image = omega arith in
      moved y.place y.byte (image-byte-stands load image blocks d y.among fits y.index y.inside),
)

-- and it is the image's, counted from the load address.
pub pieces-give-image : (load : ℕ) (image : List ℕ) (blocks : List Block) → all_parts (length image) blocks ≡ true → (a b : ℕ)
    → GivesAt (pieces_of load image blocks) a b ↔ (Covers load blocks a × (slice_index image (a - load) ≡ b))
pieces-give-image load image blocks parts a b = (
  λ g.
      let y = (pieces-give-exactly load image blocks parts a b).0 g in
      let place = y.place in
      let inside = y.inside in
      let index : a - load ≡ y.of.origin / 8 + y.index = omega arith in
      (record { of = y.of; among = y.among; above = omega arith; below = omega arith }, ap (λ (i : ℕ). slice_index image i) index ∙ y.byte),
  λ h.
      let c = h.0 in
      let above = c.above in
      let below = c.below in
      let i = a - (load + c.of.origin / 8) in
      let index : c.of.origin / 8 + i ≡ a - load = omega arith in
      (pieces-give-exactly load image blocks parts a b).1
      (record {
        of = c.of;
        among = c.among;
        index = i;
        inside = omega arith;
        place = omega arith;
        byte = ap (λ (k : ℕ). slice_index image k) index ∙ h.1;
      }),
)
