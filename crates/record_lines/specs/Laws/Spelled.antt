-- Bytes that were written as digits are spelled by them: what both formats need to read their own lines back.
use Rattle.std.specs.Prelude.{◌≡◌, ℕ, zero, suc, ◌+◌, ◌*◌, ◌/◌, ◌%◌, ◌<◌, ◌≤◌, true, List, [], ◌∷◌, ◌++◌, length, take, drop, slice_index, refl}
use Rattle.std.proofs.Common.{sym, ap, ◌∙◌, not-suc-le-zero, le_of_suc-le-suc, arith, length-take, length-drop, get_or-append-add, ext_get_or, get_or-take, get_or-drop, lt-ltb}
use Rattle.bitvec.specs.Bits.{Bytes}
use Rattle.bitvec.specs.Lists.{list_of}
use Rattle.bitvec.specs.Laws.Lists.{length-list_of, get_d-list_of}
use Rattle.record_lines.specs.Digits.{letter_of, is_digit, bytes_text, all_digits, pair_at, bytes_at}
use Rattle.record_lines.specs.Theorems.DigitLaws.{value-of-letter}

-- Lists of bytes.
pub bytes-none : Bytes []
bytes-none j = omega arith

pub bytes-cons : (b : ℕ) (l : List ℕ) → b < 256 → Bytes l → Bytes (b ∷ l)
bytes-cons b l h p zero = h
bytes-cons b l h p (suc k) = p k

pub bytes-append : (l m : List ℕ) → Bytes l → Bytes m → Bytes (l ++ m)
bytes-append [] m p q k = q k
bytes-append (b ∷ l) m p q zero = p 0
bytes-append (b ∷ l) m p q (suc k) = bytes-append l m (λ j. p (suc j)) q k

pub bytes_take : (n : ℕ) (l : List ℕ) → Bytes l → Bytes (take n l)
bytes_take zero l h j = omega arith
bytes_take (suc n) [] h j = h j
bytes_take (suc n) (b ∷ l) h zero = h 0
bytes_take (suc n) (b ∷ l) h (suc j) = bytes_take n l (λ i. h (suc i)) j

pub bytes_drop : (n : ℕ) (l : List ℕ) → Bytes l → Bytes (drop n l)
bytes_drop n l h j = rw (get_or-drop n l j 0) (h (n + j))

digit-of-letter : (n : ℕ) → n < 16 → is_digit (letter_of n) ≡ true
digit-of-letter n h = rw (value-of-letter n h, lt-ltb n 16 h)

-- What is written is digits.
pub digits-written : (l : List ℕ) → Bytes l → all_digits (bytes_text l) ≡ true
unfolding all_digits bytes_text
digits-written [] h = refl
digits-written (b ∷ l) h =
    let s : b < 256 = h 0 in
    rw (digit-of-letter (b / 16) (omega arith), digit-of-letter (b % 16) (omega arith)) (digits-written l (λ k. h (suc k)))

-- The pairs of digits are the bytes.
pair-written : (l : List ℕ) → Bytes l → (j : ℕ) → j < length l → pair_at (bytes_text l) (2 * j) ≡ slice_index l j
unfolding bytes_text
pair-written [] h j p = absurd (not-suc-le-zero p)
pair-written (b ∷ l) h zero p =
    let s : b < 256 = h 0 in
    rw (value-of-letter (b / 16) (omega arith), value-of-letter (b % 16) (omega arith)) (omega arith)
pair-written (b ∷ l) h (suc j) p =
    let e : 2 * suc j ≡ suc (suc (2 * j)) = omega arith in
    let f : 2 * suc j + 1 ≡ suc (suc (2 * j + 1)) = omega arith in
    rw (f, e) (pair-written l (λ k. h (suc k)) j (le_of_suc-le-suc p))

-- The same behind other characters.
module _ (front l : List ℕ) (h : Bytes l) where
  pub pair-behind : (j : ℕ) → j < length l → pair_at (front ++ bytes_text l) (length front + 2 * j) ≡ slice_index l j
  pair-behind j p =
      let e : length front + 2 * j + 1 ≡ length front + (2 * j + 1) = omega arith in
      rw (e, get_or-append-add front (bytes_text l) (2 * j) 0, get_or-append-add front (bytes_text l) (2 * j + 1) 0) (pair-written l h j p)

  pub bytes-behind : (i n : ℕ) → i + n ≤ length l → bytes_at (front ++ bytes_text l) (length front + 2 * i) n ≡ take n (drop i l)
  bytes-behind i n p =
      let f : ℕ → ℕ = λ j. pair_at (front ++ bytes_text l) (length front + 2 * i + 2 * j) in
      ext_get_or 0 (list_of n f) (take n (drop i l)) (length-list_of n f ∙ simp (length-take, length-drop) (omega arith)) (λ k q.
      let b : k < n = omega (arith, length-list_of n f) in
      let e : length front + 2 * i + 2 * k ≡ length front + 2 * (i + k) = omega arith in
      get_d-list_of n f k b ∙ ap (λ (x : ℕ). pair_at (front ++ bytes_text l) x) e ∙ pair-behind (i + k) (omega arith)
      ∙ sym (get_or-take n (drop i l) k 0 b ∙ get_or-drop i l k 0))
