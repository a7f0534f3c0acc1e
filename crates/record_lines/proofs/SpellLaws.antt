-- What a turn of the loop that checks and sums adds, and what it comes to.
use Rattle.std.proofs.Common.{◌≡◌, ℕ, zero, suc, [], refl, take, ◌-◌, ◌/◌, ◌+◌, ◌*◌, ◌%◌, ◌<◌, ◌≤◌, false, List, length, get_or, drop, sym, ap, ◌∙◌, arith, drop-cons, le-ltb, eq-eqb}
use native.Mathlib.Decide.{dec_lt}
use Rattle.std.specs.Simd.{first_chunks}
use Rattle.std.proofs.lemmas.List.{get_or-take, get_or-drop, length-drop, take_all}
use Rattle.prelude.specs.Laws.Pick.{pick_true, pick-false}
use Rattle.record_lines.specs.Digits.{value_of, all_digits, pair_at, bytes_at}
use Rattle.record_lines.specs.Sums.{sum_of}
use Rattle.record_lines.specs.Laws.Sums.{sum-list-more}
use Rattle.record_lines.specs.Spelling.{checked_sum}
use Rattle.record_lines.specs.Theorems.DigitLaws.{value-below, value-between, value-middle, value-above}
use Rattle.record_lines.proofs.Steps.{digits-on, digits-done}

digits-fail : (l : List ℕ) (i : ℕ) → i < length l → 15 < value_of (get_or l i 0) → all_digits (drop i l) ≡ false
unfolding all_digits
digits-fail l i h e = rw (drop-cons l i 0 h, le-ltb (value_of (get_or l i 0)) 16 (omega arith))

pub sum-bad : (l : List ℕ) (from n k : ℕ) → length l ≡ from + 2 * n → all_digits (drop from l) ≡ all_digits (drop k l) → k < length l → 15 < value_of (get_or l k 0)
    → 256 ≡ checked_sum l from n
sum-bad l from n k long inv h e = sym (pick_true _ _ (eq-eqb (length l) (from + 2 * n) long) ∙ pick-false _ _ (inv ∙ digits-fail l k h e))

pub digits-one : (l : List ℕ) (from i : ℕ) → i < length l → value_of (get_or l i 0) ≤ 15 → all_digits (drop from l) ≡ all_digits (drop i l)
    → all_digits (drop from l) ≡ all_digits (drop (i + 1) l)
digits-one l from i h e inv = inv ∙ digits-on l i h (omega arith)

low_sum : (m b : ℕ) → (m % 256 + b) % 256 ≡ (m + b) % 256
low_sum m b = omega arith

pub pair-more : (l : List ℕ) (from j s h w r : ℕ) → s ≡ sum_of (bytes_at l from j) % 256 → h ≡ value_of (get_or l (from + 2 * j) 0)
    → w ≡ value_of (get_or l (from + 2 * j + 1) 0) → h ≤ 15 → w ≤ 15 → r ≡ (s + (16 * h + w)) % 256 → r ≡ sum_of (bytes_at l from (j + 1)) % 256
pair-more l from j s h w r e f g hb wb k =
    let p : pair_at l (from + 2 * j) ≡ 16 * h + w = omega (arith, f, g) in
    k ∙ ap (λ (x : ℕ). (x + (16 * h + w)) % 256) e ∙ low_sum (sum_of (bytes_at l from j)) (16 * h + w)
    ∙ ap (λ (b : ℕ). (sum_of (bytes_at l from j) + b) % 256) (sym p)
    ∙ ap (λ (x : ℕ). x % 256) (sym (sum-list-more j (λ k. pair_at l (from + 2 * k))))

pub sum-good : (l : List ℕ) (from n j s : ℕ) → length l ≡ from + 2 * n
    → all_digits (drop from l) ≡ all_digits (drop (from + 2 * j) l) → length l ≤ from + 2 * j → j ≡ n
    → s ≡ sum_of (bytes_at l from j) % 256 → s ≡ checked_sum l from n
sum-good l from n j s long inv h e f =
    f ∙ ap (λ (k : ℕ). sum_of (bytes_at l from k) % 256) e
    ∙ sym (pick_true _ _ (eq-eqb (length l) (from + 2 * n) long) ∙ pick_true _ _ (inv ∙ digits-done l (from + 2 * j) h))

-- A character in none of the three ranges is no digit.
pub value-none : (c : ℕ) → (48 ≤ c → 57 < c) → (65 ≤ c → 70 < c) → (97 ≤ c → 102 < c) → 16 ≡ value_of c
value-none c f u l =
    elim (dec_lt c 48) [
      | yes h ↦ sym (value-below c h)
      | no h ↦
          elim (dec_lt c 65) [
            | yes k ↦ sym (value-between c (omega arith) k)
            | no k ↦
                elim (dec_lt c 97) [
                  | yes m ↦ sym (value-middle c (omega arith) m)
                  | no m ↦ sym (value-above c (omega arith))
                ]
          ]
    ]

-- The characters of a chunk of two, in the list that is cut into such chunks.
pub chunk-at : (xs : List ℕ) (n j i : ℕ) → j < n → i < 2 → get_or (get_or (first_chunks 2 n xs) j []) i 0 ≡ get_or xs (2 * j + i) 0
chunk-at xs zero j i h k = absurd (omega arith)
chunk-at xs (suc n) zero i h k = get_or-take 2 xs i 0 k ∙ ap (λ (m : ℕ). get_or xs m 0) (omega arith)
chunk-at xs (suc n) (suc j) i h k =
    chunk-at (drop 2 xs) n j i (omega arith) k ∙ get_or-drop 2 xs (2 * j + i) 0 ∙ ap (λ (m : ℕ). get_or xs m 0) (omega arith)

chunks-long : (n : ℕ) (xs : List ℕ) → length (first_chunks 2 n xs) ≡ n
chunks-long zero xs = refl
chunks-long (suc n) xs = ap suc (chunks-long n (drop 2 xs))

-- A line of n pairs behind its first characters, cut into pairs.
module _ (l : List ℕ) (first from n j : ℕ) (cs : List (List ℕ)) (cut : cs ≡ first_chunks 2 (length (take (length l - first) (drop first l)) / 2) (take (length l - first) (drop first l)))
    (same : first ≡ from) (long : length l ≡ from + 2 * n) where
  front : cs ≡ first_chunks 2 (length (drop first l) / 2) (drop first l)
  front =
      cut
      ∙ ap (λ (r : List ℕ). first_chunks 2 (length r / 2) r) (take_all (length l - first) (drop first l) (omega (arith, length-drop first l)))

  count : length cs ≡ n
  count = ap length front ∙ chunks-long (length (drop first l) / 2) (drop first l) ∙ omega (arith, length-drop first l)

  pub pair-inside : j < length cs → j < n
  pair-inside h = omega (arith, count)

  pub pairs-all : length cs ≤ j → j ≤ length cs → j ≡ n
  pairs-all h k = omega (arith, count)

  char : (i : ℕ) → i < 2 → j < length cs → get_or (get_or cs j []) i 0 ≡ get_or l (from + (2 * j + i)) 0
  char i k h =
      ap (λ (x : List (List ℕ)). get_or (get_or x j []) i 0) front
      ∙ chunk-at (drop first l) (length (drop first l) / 2) j i (omega (arith, count, length-drop first l)) k
      ∙ get_or-drop first l (2 * j + i) 0
      ∙ ap (λ (m : ℕ). get_or l (m + (2 * j + i)) 0) same

  pub pair-first : j < length cs → get_or (get_or cs j []) 0 0 ≡ get_or l (from + 2 * j) 0
  pair-first h = char 0 (omega arith) h ∙ ap (λ (m : ℕ). get_or l m 0) (omega arith)

  pub pair-second : j < length cs → get_or (get_or cs j []) 1 0 ≡ get_or l (from + 2 * j + 1) 0
  pair-second h = char 1 (omega arith) h ∙ ap (λ (m : ℕ). get_or l m 0) (omega arith)
