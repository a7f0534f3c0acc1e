-- Theorems about what Decimal defines: its digits are those of the tenth and the last one, and what they stand for.
use Rattle.std.specs.Prelude.{◌≡◌, List, [], ◌∷◌, ◌++◌, ℕ, zero, suc, ◌+◌, ◌-◌, ◌*◌, ◌/◌, ◌%◌, ◌^◌, ◌≤◌, ◌<◌, max, length, get_or}
use Rattle.std.proofs.Common.{sym, ap, ◌∙◌, arith, length-append, le-ltb}
use Rattle.std.proofs.Math.Decide.{dec_lt}
use Rattle.std.proofs.Math.ListN.{get_or-append}
use Rattle.std.proofs.Math.Nat.{pow-suc}
use Rattle.std.proofs.lemmas.Nat.{le-div}
use Rattle.prelude.specs.Laws.Pick.{pick-false}
use Rattle.print_text.specs.Decimal.{decimal, digit, digits_in, value_from}
use Rattle.print_text.specs.Laws.Decimal.{by-tens, decimal-few, few, length-few, value_from-last}
use Rattle.print_text.specs.Theorems.Decimal.{decimal-length}

more : (steps n : ℕ) → 10 ≤ n → digits_in (suc steps) n ≡ digits_in steps (n / 10) ++ (digit (n % 10) ∷ [])
unfolding digits_in
more steps n h = pick-false _ _ (le-ltb n 10 h)

-- any count that is large enough gives the same
same : (a b n : ℕ) → n < a → n < b → digits_in a n ≡ digits_in b n
same zero b n ha hb = absurd (omega arith)
same (suc a) zero n ha hb = absurd (omega arith)
same (suc a) (suc b) n ha hb =
    elim (dec_lt n 10) [
      | yes h ↦ few a n h ∙ sym (few b n h)
      | no h ↦
          more a n (omega arith)
          ∙ ap (λ (l : List ℕ). l ++ (digit (n % 10) ∷ [])) (same a b (n / 10) (omega arith) (omega arith))
          ∙ sym (more b n (omega arith))
    ]

pub decimal-more : (n : ℕ) → 10 ≤ n → decimal n ≡ decimal (n / 10) ++ (digit (n % 10) ∷ [])
unfolding decimal
decimal-more n h =
    more n n h
    ∙ ap (λ (l : List ℕ). l ++ (digit (n % 10) ∷ [])) (same n (suc (n / 10)) (n / 10) (omega arith) (omega arith))

pub length_more : (n : ℕ) → 10 ≤ n → length (decimal n) ≡ length (decimal (n / 10)) + 1
length_more n h = ap length (decimal-more n h) ∙ length-append (decimal (n / 10)) (digit (n % 10) ∷ [])

-- The digits of a number stand for it: no digit is wrong, left out or in another place.
pub decimal-value : (n : ℕ) → value_from 0 (decimal n) ≡ n
unfolding value_from
decimal-value =
    by-tens (λ (n : ℕ). value_from 0 (decimal n) ≡ n)
    (λ n h. ap (value_from 0) (decimal-few n h) ∙ (omega arith))
    (λ n h ih.
    ap (value_from 0) (decimal-more n h)
    ∙ value_from-last 0 (decimal (n / 10)) (digit (n % 10))
    ∙ ap (λ (v : ℕ). v * 10 + (digit (n % 10) - 48)) ih
    ∙ omega arith)

-- Two numbers with the same digits are equal.
pub decimal_injective : (m n : ℕ) → decimal m ≡ decimal n → m ≡ n
decimal_injective m n e = sym (decimal-value m) ∙ ap (value_from 0) e ∙ decimal-value n

-- There is a digit.
pub decimal-some : (n : ℕ) → 0 < length (decimal n)
decimal-some =
    by-tens (λ (n : ℕ). 0 < length (decimal n))
    (λ n h. rw (decimal-few n h) (omega arith))
    (λ n h ih. rw (decimal-more n h, length-append) (omega arith))

-- There is no leading zero: the first digit of a number other than 0 is not `0`, which is 48.
pub decimal-leads : (n : ℕ) → 0 < n → 48 < get_or (decimal n) 0 0
decimal-leads =
    by-tens (λ (n : ℕ). 0 < n → 48 < get_or (decimal n) 0 0)
    (λ n h k. rw (decimal-few n h) (omega arith))
    (λ n h ih k.
    let some : 0 < length (decimal (n / 10)) = decimal-some (n / 10) in
    rw (decimal-more n h, get_or-append (decimal (n / 10)) (digit (n % 10) ∷ []) 0 0 some) (ih (omega arith)))

ones : (k : ℕ) → 1 ≤ 10 ^ k
ones zero = omega arith
ones (suc k) = omega (arith, pow-suc 10 k, ones k)

-- A number that a power of ten is not above has more digits than the power has zeros.
decimal-long : (k n : ℕ) → 10 ^ k ≤ n → suc k ≤ length (decimal n)
decimal-long zero n h = omega (arith, decimal-some n)
decimal-long (suc k) n h =
    let power : 10 ^ k * 10 ≤ n = omega (arith, h, pow-suc 10 k) in
    let one : 1 ≤ 10 ^ k = ones k in
    omega (arith, length_more n (omega arith), decimal-long k (n / 10) (le-div (10 ^ k) n 10 (omega arith) power))

-- So many digits has a number that stands between two powers of ten, and so many 0.
pub decimal-between : (k n : ℕ) → 10 ^ k ≤ max n 1 → max n 1 < 10 * 10 ^ k → length (decimal n) ≡ k + 1
decimal-between k n low high =
    elim (dec_lt 0 n) [
      | yes h ↦
          let whole : max n 1 ≡ n = omega arith in
          let some = decimal-long k n (omega arith) in
          let few = decimal-length k n (omega (arith, pow-suc 10 k)) in
          omega arith
      | no h ↦
          let none : n < 10 = omega arith in
          let power : 10 ^ k < 2 = omega arith in
          omega (arith, length-few n none, zeros k power)
    ]
  where
    zeros : (k : ℕ) → 10 ^ k < 2 → k ≡ 0
    zeros zero h = omega arith
    zeros (suc k) h = absurd (omega (arith, h, pow-suc 10 k, ones k))
