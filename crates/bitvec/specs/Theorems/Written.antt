-- Theorems about what Written defines.
use Rattle.std.specs.Prelude.{◌≡◌, true, List, ℕ, ◌+◌, ◌-◌, ◌*◌, ◌≤◌, ◌<◌, length, Err}
use Rattle.std.proofs.Common.{sym, ap, ◌∙◌, arith, leb-true}
use Rattle.std.proofs.Math.Bool.{and-eq-true_iff}
use Rattle.std.proofs.Math.Decide.{dec_lt}
use Rattle.prelude.specs.declared.Refusal.{Refusal}
use Rattle.prelude.specs.declared.Refusal.TheVariants.{Malformed}
use Rattle.prelude.specs.Verdict.{Accepted}
use Rattle.bitvec.specs.Within.{ends_within, covers}
use Rattle.bitvec.specs.Laws.Within.{covers-inside, covers-not}
use Rattle.bitvec.specs.Numeral.{Bits}
use Rattle.bitvec.specs.Laws.Numeral.{pick-lt}
use Rattle.bitvec.specs.Bits.{bit_at, Bytes}
use Rattle.bitvec.specs.Laws.Bits.{bit_at_lt, bit_at-past}
use Rattle.bitvec.specs.Theorems.Bits.{length-of_bits, bit_at-of_bits, bytes-of_bits}
use Rattle.bitvec.specs.Laws.Written.{accepted-test, refused-test}
use Rattle.bitvec.specs.Written.{Writes, is_written, written, written_bit}

module _ (image : List ℕ) (position : ℕ) (values : List ℕ) (start size : ℕ) where
  pub written_bit-lt : Bits (written_bit image position values start size)
  unfolding written_bit
  written_bit-lt k = pick-lt (covers position size k) (bit_at_lt values (start + (k - position))) (bit_at_lt image k)

  pub length-written : length (written image position values start size) ≡ length image
  unfolding written
  length-written = length-of_bits (length image) (written_bit image position values start size)

  pub bytes-written : Bytes (written image position values start size)
  unfolding written
  bytes-written = bytes-of_bits (length image) (written_bit image position values start size) written_bit-lt

  pub bit_at-written : (k : ℕ) → k < 8 * length image → bit_at (written image position values start size) k ≡ written_bit image position values start size k
  unfolding written
  bit_at-written k h = bit_at-of_bits (length image) (written_bit image position values start size) written_bit-lt k h

  pub written_bit-inside : (k : ℕ) → position ≤ k → k < position + size
      → written_bit image position values start size k ≡ bit_at values (start + (k - position))
  unfolding written_bit
  written_bit-inside k h l = rw (covers-inside position size k h l)

  pub written_bit-outside : (k : ℕ) → (position ≤ k → k < position + size → ⊥) → written_bit image position values start size k ≡ bit_at image k
  unfolding written_bit
  written_bit-outside k out = rw (covers-not position size k out)

  -- A written bit is the item's own: bit j of the item stands at `position` + j.
  pub written-own : position + size ≤ 8 * length image → (j : ℕ) → j < size → bit_at (written image position values start size) (position + j) ≡ bit_at values
      (start + j)
  written-own fits j h =
      bit_at-written (position + j) (omega arith) ∙ written_bit-inside (position + j) (omega arith) (omega arith)
      ∙ ap (λ (i : ℕ). bit_at values (start + i)) (omega arith)

  -- A bit outside the item is unchanged.
  pub written-other : (k : ℕ) → (position ≤ k → k < position + size → ⊥) → bit_at (written image position values start size) k ≡ bit_at image k
  written-other k out =
      elim (dec_lt k (8 * length image)) [
        | yes h ↦ bit_at-written k h ∙ written_bit-outside k out
        | no h ↦
            bit_at-past (written image position values start size) k (omega (arith, length-written))
            ∙ sym (bit_at-past image k (omega arith))
      ]

module _ (image : List ℕ) (position : ℕ) (values : List ℕ) (start size : ℕ) (after : List ℕ) where
  -- After an accepted call each bit of the item is the item's own bit, and each other bit is as it was.
  module _ (call : Writes image position values start size Accepted after) where
    passed : is_written image position values start size ≡ true
    passed = accepted-test (is_written image position values start size) (Malformed 0) call.answer

    pub accepted-written : after ≡ written image position values start size
    accepted-written = call.bytes ∙ rw passed

    pub accepted-fits : (position + size ≤ 8 * length image) × (start + size ≤ 8 * length values)
    accepted-fits =
        let both = (and-eq-true_iff (ends_within (length image) position size) (ends_within (length values) start size)).0 passed in
        (leb-true (position + size) (8 * length image) both.0, leb-true (start + size) (8 * length values) both.1)

    pub accepted-own : (j : ℕ) → j < size → bit_at after (position + j) ≡ bit_at values (start + j)
    accepted-own j h = rw accepted-written (written-own image position values start size accepted-fits.0 j h)

    pub accepted-other : (k : ℕ) → (position ≤ k → k < position + size → ⊥) → bit_at after k ≡ bit_at image k
    accepted-other k out = rw accepted-written (written-other image position values start size k out)

  -- A refused call leaves the image as it was.
  pub refused-kept : (r : Refusal) → Writes image position values start size (Err r) after → after ≡ image
  refused-kept r call =
      let e = refused-test (is_written image position values start size) r (Malformed 0) call.answer in
      call.bytes ∙ rw e
