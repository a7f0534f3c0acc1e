-- Hex digits read the bits below the bit length alone, so that the room in which an image stands does not show in its digits: what is printed of an image
-- in 16,384 bytes is what is printed of it in a few.
use Rattle.std.specs.Prelude.{◌≡◌, Bool, List}
use Rattle.std.proofs.Math.Path.{refl, ap, fun_ext}
use Rattle.std.proofs.Common.{sym, ◌∙◌, arith, ltb-true}
use Rattle.std.proofs.Math.Bool.{true, false}
use Prim.Native.Nat.{ℕ, ◌+◌, ◌*◌, ◌<◌, ◌≤◌}
use Rattle.std.proofs.Math.Dec.{ltb}
use Rattle.prelude.specs.Pick.{pick}
use Rattle.bankdef.specs.declared.Bankdef.{Bankdef}
use Rattle.bitvec.specs.Bits.{bit_at}
use Rattle.bitvec.specs.HexDigits.{digit_of, padded_bit, digit_value, digit_at, digit_count, hex_of}
use Rattle.bitvec.specs.Lists.{list_of}
use Rattle.bitvec.specs.Numeral.{numeral}
use Rattle.build_visits.specs.Items.{Item, image_of}
use Rattle.build_visits.specs.Laws.ItemLaws.{image-agrees}
use Rattle.build_write.specs.Blank.{blank_of}
use Rattle.build_write.specs.Laws.Blank.{blank-bit, blank-length}

module _ (x y : List ℕ) (bits : ℕ) (same : (k : ℕ) → k < bits → bit_at x k ≡ bit_at y k) where
  padded : (k : ℕ) → padded_bit x bits k ≡ padded_bit y bits k
  unfolding padded_bit
  padded k = by (ltb k bits) refl
    where
      by : (t : Bool) → ltb k bits ≡ t → pick t (bit_at x k) 0 ≡ pick t (bit_at y k) 0
      by true e = same k (ltb-true k bits e)
      by false e = refl

  pub same_digits : hex_of x bits ≡ hex_of y bits
  unfolding digit_at digit_value
  same_digits = ap (λ (f : ℕ → ℕ). list_of (digit_count bits) (λ k. digit_of (numeral 4 (λ b. f (4 * k + b))))) (fun_ext padded)

-- An image of so many bits, in this room or in that.
pub any-room : (values : List ℕ) (banks : List Bankdef) (items : List Item) (bits room less : ℕ) → bits ≤ 8 * room → bits ≤ 8 * less
    → hex_of (image_of values (blank_of banks bits room) items) bits ≡ hex_of (image_of values (blank_of banks bits less) items) bits
any-room values banks items bits room less h l =
    same_digits (image_of values (blank_of banks bits room) items) (image_of values (blank_of banks bits less) items) bits (λ k m.
    image-agrees values (blank_of banks bits room) (blank_of banks bits less) items k (omega (arith, blank-length banks bits room))
    (omega (arith, blank-length banks bits less)) (blank-bit banks bits room h k ∙ sym (blank-bit banks bits less l k)))
