-- Laws that proofs about Blank need.
use Rattle.std.specs.Prelude.{◌≡◌, refl, List, ℕ, ◌*◌, ◌≤◌, ◌<◌, ltb, length, get_or, replicate}
use Rattle.std.proofs.Common.{sym, ◌∙◌, arith, le-ltb}
use Rattle.std.proofs.Math.Decide.{dec_lt}
use Rattle.std.proofs.lemmas.List.{length-replicate}
use Rattle.prelude.specs.Pick.{pick}
use Rattle.bankdef.specs.Check.{no_bank}
use Rattle.bankdef.specs.Laws.FillBits.{fill-bit-lt}
use Rattle.bankdef.specs.Theorems.FillBits.{bits-zero}
use Rattle.bankdef.specs.Numbers.{fill_bit}
use Rattle.bankdef.specs.declared.Bankdef.{Bankdef}
use Rattle.bitvec.specs.Bits.{bit_at, Bytes}
use Rattle.bitvec.specs.Laws.Bits.{bit_at-past}
use Rattle.bitvec.specs.Theorems.Bits.{length-of_bits, bit_at-of_bits, bytes-of_bits, same_bits}
use Rattle.bitvec.specs.Numeral.{Bits}
use Rattle.bitvec.specs.Laws.Numeral.{pick-lt}
use Rattle.build_visits.specs.Laws.ItemLaws.{zeros-bit, zeros-bytes}
use Rattle.build_write.specs.Blank.{blank_bit, blank_of}

module _ (banks : List Bankdef) (bits bytes : ℕ) where
  blank-lt : Bits (blank_bit banks bits)
  blank-lt k = pick-lt (ltb k bits) (fill-bit-lt banks k) (omega arith)

  pub blank-length : length (blank_of banks bits bytes) ≡ bytes
  unfolding blank_of
  blank-length = length-of_bits bytes (blank_bit banks bits)

  pub blank-bytes : Bytes (blank_of banks bits bytes)
  unfolding blank_of
  blank-bytes = bytes-of_bits bytes (blank_bit banks bits) blank-lt

  pub blank-bit-inside : (k : ℕ) → k < 8 * bytes → bit_at (blank_of banks bits bytes) k ≡ blank_bit banks bits k
  unfolding blank_of
  blank-bit-inside k h = bit_at-of_bits bytes (blank_bit banks bits) blank-lt k h

  -- Each of its bits, where the bytes have room for the image's length.
  pub blank-bit : bits ≤ 8 * bytes → (k : ℕ) → bit_at (blank_of banks bits bytes) k ≡ blank_bit banks bits k
  blank-bit room k =
      elim (dec_lt k (8 * bytes)) [
        | yes h ↦ blank-bit-inside k h
        | no h ↦ bit_at-past (blank_of banks bits bytes) k (omega (arith, blank-length)) ∙ sym (rw (le-ltb k bits (omega arith)))
      ]

  -- Where all fill bits are zero it is zero throughout, as document 01 has it.
  pub blank-zeros : ((k : ℕ) → 0 < k → k < length banks → fill_bit (get_or banks k no_bank) ≡ 0) → blank_of banks bits bytes ≡ replicate bytes 0
  blank-zeros clear =
      same_bits (blank_of banks bits bytes) (replicate bytes 0) blank-bytes (zeros-bytes bytes)
      (blank-length ∙ sym (length-replicate {A = ℕ} bytes 0))
      (λ k h. blank-bit-inside k (omega (arith, blank-length)) ∙ either-zero (ltb k bits) (bits-zero banks clear k) ∙ sym (zeros-bit bytes k))
    where
      either-zero : (b : mathlib.Core.Bool.Bool) {x : ℕ} → x ≡ 0 → pick b x 0 ≡ 0
      either-zero mathlib.Core.Bool.true e = e
      either-zero mathlib.Core.Bool.false e = refl
