-- Theorems about what Ones defines.
use Rattle.std.specs.Prelude.{◌≡◌, refl, List, ◌⊎◌, ◌↔◌, ℕ, ◌*◌, ◌≤◌, ◌<◌, min}
use Rattle.std.proofs.Math.Path.{sym}
use Rattle.std.proofs.Common.{◌∙◌, inl, inr, ⊎_elim, arith}
use Rattle.std.proofs.Math.Decide.{dec_lt, dec_le}
use Rattle.std.proofs.Math.ListN.{length}
use Rattle.bitvec.specs.Numeral.{Bits}
use Rattle.bitvec.specs.Laws.Numeral.{pick-lt}
use Rattle.bitvec.specs.Bits.{bit_at, Bytes}
use Rattle.bitvec.specs.Laws.Bits.{bit_at_lt, bit_at-past}
use Rattle.bitvec.specs.Theorems.Bits.{length-of_bits, bit_at-of_bits, bytes-of_bits, same_bits}
use Rattle.bitvec.specs.Laws.Ones.{between-inside, between-not}
use Rattle.bitvec.specs.Ones.{between, ones_bit, with_ones}

module _ (image : List ℕ) (from end : ℕ) where
  ones_bit-lt : Bits (ones_bit image from end)
  unfolding ones_bit
  ones_bit-lt k = pick-lt (between from end k) (omega arith) (bit_at_lt image k)

  -- The image keeps its length,
  pub length-ones : length (with_ones image from end) ≡ length image
  unfolding with_ones
  length-ones = length-of_bits (length image) (ones_bit image from end)

  pub bytes-ones : Bytes (with_ones image from end)
  unfolding with_ones
  bytes-ones = bytes-of_bits (length image) (ones_bit image from end) ones_bit-lt

  bit_at-ones : (k : ℕ) → k < 8 * length image → bit_at (with_ones image from end) k ≡ ones_bit image from end k
  unfolding with_ones
  bit_at-ones k h = bit_at-of_bits (length image) (ones_bit image from end) ones_bit-lt k h

  -- each of its bits inside the range is one,
  pub ones-inside : (k : ℕ) → k < 8 * length image → from ≤ k → k < end → bit_at (with_ones image from end) k ≡ 1
  unfolding ones_bit
  ones-inside k h l m = bit_at-ones k h ∙ rw (between-inside from end k l m)

  -- and each other bit stays.
  pub ones-outside : (k : ℕ) → (from ≤ k → k < end → ⊥) → bit_at (with_ones image from end) k ≡ bit_at image k
  unfolding ones_bit
  ones-outside k out =
      elim (dec_lt k (8 * length image)) [
        | yes h ↦ bit_at-ones k h ∙ rw (between-not from end k out)
        | no h ↦ bit_at-past (with_ones image from end) k (omega (arith, length-ones)) ∙ sym (bit_at-past image k (omega arith))
      ]

  -- So a bit of the image is one afterwards exactly when it is inside or was one.
  pub one-afterwards : (k : ℕ) → k < 8 * length image
      → (bit_at (with_ones image from end) k ≡ 1) ↔ (((from ≤ k) × (k < end)) ⊎ (bit_at image k ≡ 1))
  one-afterwards k h = (there, ⊎_elim (λ i. ones-inside k h i.0 i.1) kept)
    where
      there : bit_at (with_ones image from end) k ≡ 1 → ((from ≤ k) × (k < end)) ⊎ (bit_at image k ≡ 1)
      there e =
          elim (dec_le from k) [
            | no out ↦ inr (sym (ones-outside k (λ p q. out p)) ∙ e)
            | yes l ↦ elim (dec_lt k end) [ no out ↦ inr (sym (ones-outside k (λ p q. out q)) ∙ e) | yes m ↦ inl (l, m) ]
          ]

      kept : bit_at image k ≡ 1 → bit_at (with_ones image from end) k ≡ 1
      kept e =
          elim (dec_le from k) [
            | no out ↦ ones-outside k (λ p q. out p) ∙ e
            | yes l ↦ elim (dec_lt k end) [ no out ↦ ones-outside k (λ p q. out q) ∙ e | yes m ↦ ones-inside k h l m ]
          ]

  -- No other bytes are so: as many, ones inside, the old bits outside.
  pub only-ones : (after : List ℕ) → Bytes after → length after ≡ length image
      → ((k : ℕ) → k < 8 * length image → from ≤ k → k < end → bit_at after k ≡ 1)
      → ((k : ℕ) → k < 8 * length image → (from ≤ k → k < end → ⊥) → bit_at after k ≡ bit_at image k)
      → after ≡ with_ones image from end
  only-ones after bytes len inside outside =
      same_bits after (with_ones image from end) bytes bytes-ones (len ∙ sym length-ones)
      λ k h.
      let lt : k < 8 * length image = omega (arith, len) in
      elim (dec_le from k) [
        | no out ↦ outside k lt (λ p q. out p) ∙ sym (ones-outside k (λ p q. out p))
        | yes l ↦
            elim (dec_lt k end) [
              | no out ↦ outside k lt (λ p q. out q) ∙ sym (ones-outside k (λ p q. out q))
              | yes m ↦ inside k lt l m ∙ sym (ones-inside k lt l m)
            ]
      ]

-- A range that has no bit of the image changes nothing.
pub ones_none : (image : List ℕ) (from end : ℕ) → Bytes image → min end (8 * length image) ≤ from → image ≡ with_ones image from end
ones_none image from end bytes h =
    only-ones image from end image bytes refl (λ k lt l m. absurd (omega arith)) (λ k lt out. refl)

-- What is past the image's end changes nothing.
pub ones_cut : (image : List ℕ) (from end : ℕ) → with_ones image from (min end (8 * length image)) ≡ with_ones image from end
ones_cut image from end =
    let stop = min end (8 * length image) in
    only-ones image from end (with_ones image from stop) (bytes-ones image from stop) (length-ones image from stop)
    (λ k lt l m. ones-inside image from stop k lt l (omega arith))
    (λ k lt out. ones-outside image from stop k (λ p q. out p (omega arith)))

-- Two ranges that meet are one.
pub ones-runs : (image : List ℕ) (from mid end : ℕ) → from ≤ mid → mid ≤ end → with_ones (with_ones image from mid) mid end ≡ with_ones image from end
ones-runs image from mid end h l =
    let first = with_ones image from mid in
    let n = length-ones image from mid in
    only-ones image from end (with_ones first mid end) (bytes-ones first mid end) (length-ones first mid end ∙ n)
    (λ k lt p q. elim (dec_lt k mid) [
      | yes before ↦ ones-outside first mid end k (λ a b. omega arith) ∙ ones-inside image from mid k lt p before
      | no after ↦ ones-inside first mid end k (omega (arith, n)) (omega arith) q
    ])
    (λ k lt out.
    ones-outside first mid end k (λ a b. out (omega arith) b) ∙ ones-outside image from mid k (λ a b. out a (omega arith)))

-- The order of two ranges does not matter.
pub ones-swap : (image : List ℕ) (a b c d : ℕ) → with_ones (with_ones image a b) c d ≡ with_ones (with_ones image c d) a b
ones-swap image a b c d =
    let first = with_ones image a b in
    let second = with_ones image c d in
    let n = length-ones image a b in
    let m = length-ones image c d in
    only-ones second a b (with_ones first c d) (bytes-ones first c d) (length-ones first c d ∙ n ∙ sym m)
    (λ k lt p q.
    either-range c d k
    (λ r s. ones-inside first c d k (omega (arith, n, m)) r s)
    (λ out. ones-outside first c d k out ∙ ones-inside image a b k (omega (arith, m)) p q))
    (λ k lt out.
    either-range c d k
    (λ r s. ones-inside first c d k (omega (arith, n, m)) r s ∙ sym (ones-inside image c d k (omega (arith, m)) r s))
    (λ apart. ones-outside first c d k apart ∙ ones-outside image a b k out ∙ sym (ones-outside image c d k apart)))
  where
    either-range : {X : Type 0} (from end k : ℕ) → (from ≤ k → k < end → X) → ((from ≤ k → k < end → ⊥) → X) → X
    either-range from end k inside outside =
        elim (dec_le from k) [
          | no out ↦ outside (λ p q. out p)
          | yes l ↦ elim (dec_lt k end) [ no out ↦ outside (λ p q. out q) | yes h ↦ inside l h ]
        ]
