-- How a range of ones is put together from bytes: one store makes the ones of one byte.
use mathlib.Core.Path.{◌≡◌, refl, sym, ap, ◌∙◌}
use mathlib.Core.Bool.{Bool, true, false}
use mathlib.Core.List.{List}
use Prim.Native.Nat.{ℕ, zero, suc, ◌+◌, ◌-◌, ◌*◌, ◌/◌, ◌%◌, ◌^◌, ◌≤◌, ◌<◌, min}
use native.Mathlib.Decide.{dec_lt, ℕ_discrete}
use native.Mathlib.Nat.{pow-zero, pow-suc}
use native.Mathlib.Omega.{arith}
use lib.ListN.{length, get_or, set, replicate, length-set}
use borrow.Rule.Slice.PartMut.{put_mid}
use Rattle.std.specs.Bool.{MatchBool}
use Rattle.std.specs.List.{AllWithin, HoldsAt, range_with_len}
use Rattle.std.proofs.lemmas.List.{length-replicate, get_or-replicate}
use Rattle.std.proofs.lemmas.List.FromFn.{length-range_with_len, get_or-range_with_len}
use lib.Seq.{get_or-set_same, get_or-set_other}
use Rattle.prelude.specs.Laws.Bools.{clash}
use Rattle.prelude.specs.Pick.{pick}
use Rattle.bitvec.specs.Numeral.{numeral, bit_of}
use Rattle.bitvec.specs.Laws.Numeral.{pick-lt, numeral-cong, bit_of-numeral}
use Rattle.bitvec.specs.Laws.Ones.{between-inside, between-not}
use Rattle.bitvec.proofs.Pieces.{put-bytes}
use Rattle.bitvec.specs.Bits.{bit_at, Bytes}
use Rattle.bitvec.specs.Within.{covers}
use Rattle.bitvec.specs.Laws.Within.{covers-inside, covers-not}
use Rattle.bitvec.specs.Laws.Bits.{bit_at_lt, bit_at-past}
use Rattle.bitvec.specs.Ones.{with_ones, ones_bit, AnyOne}
use Rattle.bitvec.specs.Theorems.Ones.{only-ones, ones-runs}
use Rattle.bitvec.specs.Steps.{spliced}

-- n ones are one less than a power of 2
numeral-ones : (n : ℕ) → numeral n (λ i. 1) + 1 ≡ 2 ^ n
unfolding numeral
numeral-ones zero = omega (arith, pow-zero 2)
numeral-ones (suc n) = omega (arith, numeral-ones n, pow-suc 2 n)

-- so each bit of such a number is one
all-ones : (n x : ℕ) → x + 1 ≡ 2 ^ n → (b : ℕ) → b < n → bit_of n x b ≡ 1
all-ones n x e b h =
    let same : x ≡ numeral n (λ i. 1) = omega (arith, numeral-ones n) in
    rw same (bit_of-numeral n (λ i. 1) (λ i. omega arith) b h)

-- A store of byte j makes ones of its n bits from bit `at` on, where the byte stored has ones there and the old bits elsewhere.
module _ (image : List ℕ) (j at n v : ℕ) (bytes : Bytes image) (there : j < length image) (fits : at + n ≤ 8) (byte : v < 256)
    (new : (b : ℕ) → b < 8 → at ≤ b → b < at + n → bit_of 8 v b ≡ 1)
    (old : (b : ℕ) → b < 8 → (at ≤ b → b < at + n → ⊥) → bit_of 8 v b ≡ bit_of 8 (get_or image j 0) b) where
  bytes-set : Bytes (set image j v)
  bytes-set i =
      elim (ℕ_discrete i j) [
        | yes same ↦ rw (same, get_or-set_same image j v 0 there) byte
        | no other ↦ rw (get_or-set_other image j i v 0 other) (bytes i)
      ]

  own-bit : (k : ℕ) → k / 8 ≡ j → bit_at (set image j v) k ≡ bit_of 8 v (k % 8)
  unfolding bit_at
  own-bit k e = rw (e, get_or-set_same image j v 0 there)

  kept-bit : (k : ℕ) → (k / 8 ≡ j → ⊥) → bit_at (set image j v) k ≡ bit_at image k
  unfolding bit_at
  kept-bit k e = rw (get_or-set_other image j (k / 8) v 0 e)

  old_bit : (k : ℕ) → k / 8 ≡ j → bit_of 8 (get_or image j 0) (k % 8) ≡ bit_at image k
  unfolding bit_at
  old_bit k e = rw e

  pub stored-ones : set image j v ≡ with_ones image (8 * j + at) (8 * j + at + n)
  stored-ones =
      only-ones image (8 * j + at) (8 * j + at + n) (set image j v) bytes-set (length-set image j v)
      (λ k lt l m.
      let own : k / 8 ≡ j = omega arith in
      own-bit k own ∙ new (k % 8) (omega arith) (omega arith) (omega arith))
      (λ k lt out.
      elim (ℕ_discrete (k / 8) j) [
        | no other ↦ kept-bit k other
        | yes own ↦ own-bit k own ∙ old (k % 8) (omega arith) (λ p q. out (omega arith) (omega arith)) ∙ old_bit k own
      ])

-- A spliced byte whose chunk is all ones.
pub spliced-ones : (image : List ℕ) (j at n chunk v : ℕ) → Bytes image → j < length image → at + n ≤ 8 → chunk + 1 ≡ 2 ^ n
    → v ≡ spliced (get_or image j 0) at n chunk → v < 256 → set image j v ≡ with_ones image (8 * j + at) (8 * j + at + n)
unfolding spliced
spliced-ones image j at n chunk v bytes there fits c e byte = stored-ones image j at n v bytes there fits byte new old
  where
    bit : ℕ → ℕ
    bit b = pick (covers at n b) (bit_of n chunk (b - at)) (bit_of 8 (get_or image j 0) b)

    by_bits : (b : ℕ) → b < 8 → bit_of 8 v b ≡ bit b
    by_bits b h = rw e (bit_of-numeral 8 bit (λ i. pick-lt (covers at n i) (omega arith) (omega arith)) b h)

    new : (b : ℕ) → b < 8 → at ≤ b → b < at + n → bit_of 8 v b ≡ 1
    new b h l m = by_bits b h ∙ rw (covers-inside at n b l m) (all-ones n chunk c (b - at) (omega arith))

    old : (b : ℕ) → b < 8 → (at ≤ b → b < at + n → ⊥) → bit_of 8 v b ≡ bit_of 8 (get_or image j 0) b
    old b h out = by_bits b h ∙ rw (covers-not at n b out)

-- Whole bytes of ones.
pub ones-bytes : (image : List ℕ) (j k : ℕ) → Bytes image → j ≤ k → k ≤ length image
    → put_mid j (k - j) image (replicate (k - j) 255) ≡ with_ones image (8 * j) (8 * k)
unfolding with_ones ones_bit numeral
ones-bytes image j k known h l =
    put-bytes image j (k - j) (replicate (k - j) 255) (ones_bit image (8 * j) (8 * k)) known (length-replicate (k - j) 255) (omega arith)
    (λ i lt.
    get_or-replicate (k - j) i 255 0 lt
    ∙ numeral-cong 8 (λ b. 1) (λ b. ones_bit image (8 * j) (8 * k) (8 * (j + i) + b)) (λ b less. sym (rw (between-inside (8 * j) (8 * k) (8 * (j + i) + b) (omega arith) (omega arith)))))
    (λ p out. rw (between-not (8 * j) (8 * k) p (λ a b. out a (omega arith))))

-- Two calls, the second where the first ended, make one range.
pub two-ranges : (image mid after : List ℕ) (from m m' end : ℕ) → mid ≡ with_ones image from m → after ≡ with_ones mid m' end
    → m ≡ m' → from ≤ m → m ≤ end → after ≡ with_ones image from end
two-ranges image mid after from m m' end first second e h l = rw (second, first, ← e) (ones-runs image from m end h l)

-- the same range by other numbers
pub same-range : (image after : List ℕ) (from end from' end' : ℕ) → after ≡ with_ones image from end → from ≡ from' → end ≡ end'
    → after ≡ with_ones image from' end'
same-range image after from end from' end' h e f = rw (h, e, f)

-- ---- whether there is a one

module _ (image : List ℕ) (from : ℕ) where
  -- one bit, as it is read
  one_bit : (i m r : ℕ) → m ≡ i → r ≡ numeral 1 (λ j. bit_at image (m + j)) → r ≡ bit_at image i
  unfolding numeral
  one_bit i m r p e =
      let same : bit_at image (m + 0) ≡ bit_at image i = ap (bit_at image) (omega arith) in
      let read : r ≡ 0 * 2 + bit_at image (m + 0) = e in
      omega (arith, read, same)

  pub bit-one : (i m r : ℕ) → m ≡ i → r ≡ numeral 1 (λ j. bit_at image (m + j)) → r ≡ 1 → bit_at image i ≡ 1
  bit-one i m r p e h = sym (one_bit i m r p e) ∙ h

  pub bit-none : (i m r : ℕ) → m ≡ i → r ≡ numeral 1 (λ j. bit_at image (m + j)) → (r ≡ 1 → ⊥) → bit_at image i ≡ 0
  bit-none i m r p e h = omega (arith, one_bit i m r p e, bit_at_lt image i, h)

  -- what a search of the bits before `stop` tells
  pub any-told : (end stop : ℕ) (r : Bool) → stop ≡ min end (8 * length image)
      → MatchBool r
      ((k : ℕ) × (k < length (range_with_len from (stop - from))) × HoldsAt (λ i. bit_at image i ≡ 1) (range_with_len from (stop - from)) k)
      (AllWithin (λ i. bit_at image i ≡ 0) (range_with_len from (stop - from)) 0 (length (range_with_len from (stop - from))))
      → AnyOne image from end r
  any-told end stop true e h =
      let lt : h.0 < stop - from = omega (arith, h.1, length-range_with_len from (stop - from)) in
      record {
        some = λ z.
            record {
              bit = from + h.0;
              low = omega arith;
              high = omega arith;
              one = sym (ap (bit_at image) (get_or-range_with_len from (stop - from) h.0 0 lt)) ∙ h.2 0;
            };
        none = λ z. absurd (clash refl z);
      }
  any-told end stop false e h =
      record {
        some = λ z. absurd (clash z refl);
        none = λ z k p q.
            elim (dec_lt k (8 * length image)) [
              | no b ↦ bit_at-past image k (omega arith)
              | yes b ↦
                  let lt : k - from < stop - from = omega arith in
                  let at : from + (k - from) ≡ k = omega arith in
                  sym (ap (bit_at image) (get_or-range_with_len from (stop - from) (k - from) 0 lt ∙ at))
                  ∙ h (k - from) 0 (omega arith) (omega (arith, length-range_with_len from (stop - from)))
            ];
      }
