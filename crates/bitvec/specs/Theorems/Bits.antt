-- Theorems about what Bits defines.
use Rattle.std.specs.Prelude.{◌≡◌, List, ℕ, ◌+◌, ◌*◌, ◌/◌, ◌%◌, ◌<◌, length, get_or}
use Rattle.std.proofs.Common.{sym, ◌∙◌, arith, ext_get_or}
use Rattle.std.proofs.Math.Path.{ap}
use Rattle.std.proofs.Math.Decide.{dec_lt}
use Rattle.std.proofs.Math.ListN.{get_or-eq_default}
use Rattle.bitvec.specs.Laws.Lists.{length-list_of, get_d-list_of}
use Rattle.bitvec.specs.Numeral.{numeral, Bits}
use Rattle.bitvec.specs.Laws.Numeral.{numeral-cong, numeral-lt, bit_of-numeral}
use Rattle.bitvec.specs.Bits.{Bytes, bit_at, of_bits}
use Rattle.bitvec.specs.Laws.Bits.{byte-numeral}

module _ (n : ℕ) (f : ℕ → ℕ) where
  pub length-of_bits : length (of_bits n f) ≡ n
  unfolding of_bits
  length-of_bits = length-list_of n _

  pub get_d-of_bits : (j : ℕ) → j < n → get_or (of_bits n f) j 0 ≡ numeral 8 (λ b. f (8 * j + b))
  unfolding of_bits
  get_d-of_bits j h = get_d-list_of n _ j h

  pub bit_at-of_bits : Bits f → (k : ℕ) → k < 8 * n → bit_at (of_bits n f) k ≡ f k
  unfolding bit_at
  bit_at-of_bits bits k h =
      rw (get_d-of_bits (k / 8) (omega arith))
      (bit_of-numeral 8 (λ b. f (8 * (k / 8) + b)) (λ b. bits (8 * (k / 8) + b)) (k % 8) (omega arith)
      ∙ ap f (omega arith))

  pub bytes-of_bits : Bits f → Bytes (of_bits n f)
  bytes-of_bits bits j =
      elim (dec_lt j n) [
        | yes h ↦ rw (get_d-of_bits j h) (numeral-lt 8 (λ b. f (8 * j + b)) (λ b. bits (8 * j + b)))
        | no h ↦ rw (get_or-eq_default (of_bits n f) 0 {n = j} (omega (arith, length-of_bits))) (omega arith)
      ]

-- Bytes with the same bits are the same bytes.
pub same_bits : (l m : List ℕ) → Bytes l → Bytes m → length l ≡ length m → ((k : ℕ) → k < 8 * length l → bit_at l k ≡ bit_at m k) → l ≡ m
same_bits l m hl hm e same =
    ext_get_or 0 l m e λ j h.
    byte-numeral l hl j
    ∙ numeral-cong 8 (λ b. bit_at l (8 * j + b)) (λ b. bit_at m (8 * j + b)) (λ b hb. same (8 * j + b) (omega arith))
    ∙ sym (byte-numeral m hm j)
