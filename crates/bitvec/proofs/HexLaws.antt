-- A byte gives two digits: the upper four bits and the lower four, of what is printed of it.
use Rattle.std.specs.Prelude.{Ok, Err}
use mathlib.Core.Path.{◌≡◌, sym, ap, ◌∙◌}
use mathlib.Core.Bool.{true, false}
use mathlib.Core.List.{List, ◌++◌}
use Prim.Native.Nat.{ℕ, ◌+◌, ◌-◌, ◌*◌, ◌/◌, ◌%◌, ◌^◌, ◌≤◌, ◌<◌}
use native.Mathlib.Omega.{arith}
use lib.ListN.{length, get_or, set, drop}
use borrow.Author.Tests.{le-leb, lt-leb}
use Rattle.prelude.specs.declared.Refusal.TheVariants.{Malformed, TooShort}
use Rattle.bitvec.specs.Within.{ends_within}
use Rattle.bitvec.specs.Lists.{list_of}
use Rattle.bitvec.specs.Laws.Lists.{list_of-more}
use Rattle.bitvec.specs.Numeral.{numeral}
use Rattle.bitvec.specs.Laws.Numeral.{numeral-cong, numeral-high, numeral-low, numeral-cleared}
use Rattle.bitvec.specs.Bits.{bit_at, Bytes}
use Rattle.bitvec.specs.Laws.Bits.{bit_at_lt, byte-numeral}
use Rattle.bitvec.specs.HexDigits.{digit_of, padded_bit, digit_value, digit_at, digit_count, hex_of, hex_answer, Prints}
use Rattle.bitvec.specs.Theorems.HexDigits.{hex-told, padded_bit-lt, padded_bit-own}
use Rattle.bitvec.specs.Theorems.HexDigits.{padded_bit-past}

module _ (bytes : List ℕ) (bits : ℕ) where
  -- the eight bits that are printed of byte j
  pub printed : ℕ → ℕ
  printed j = numeral 8 (λ b. padded_bit bytes bits (8 * j + b))

  pub upper : (j x : ℕ) → x ≡ printed j → digit_of (x / 16) ≡ digit_at bytes bits (2 * j)
  unfolding printed digit_at digit_value
  upper j x e =
      rw e
      (ap digit_of
      (numeral-high 4 4 (λ b. padded_bit bytes bits (8 * j + b)) (λ b. padded_bit-lt bytes bits (8 * j + b))
      ∙ numeral-cong 4 _ _ (λ b h. ap (λ (k : ℕ). padded_bit bytes bits k) (omega arith))))

  pub lower : (j x : ℕ) → x ≡ printed j → digit_of (x % 16) ≡ digit_at bytes bits (2 * j + 1)
  unfolding printed digit_at digit_value
  lower j x e =
      rw e
      (ap digit_of
      (numeral-low 4 4 (λ b. padded_bit bytes bits (8 * j + b)) (λ b. padded_bit-lt bytes bits (8 * j + b))
      ∙ numeral-cong 4 _ _ (λ b h. ap (λ (k : ℕ). padded_bit bytes bits k) (omega arith))))

  -- a whole byte is printed as it is
  pub whole : Bytes bytes → (j : ℕ) → 8 * j + 8 ≤ bits → get_or bytes j 0 ≡ printed j
  unfolding printed
  whole b j h = byte-numeral bytes b j ∙ numeral-cong 8 _ _ (λ i l. sym (padded_bit-own bytes bits (8 * j + i) (omega arith)))

  -- of the last byte the bits past the length are printed as zeros
  pub last : Bytes bytes → (p : ℕ) → p ≡ 2 ^ (8 - bits % 8)
      → get_or bytes (bits / 8) 0 - get_or bytes (bits / 8) 0 % p ≡ printed (bits / 8)
  unfolding printed
  last b p e =
      rw (e, byte-numeral bytes b (bits / 8))
      (numeral-cleared 8 (bits % 8) (8 - bits % 8) (λ i. bit_at bytes (8 * (bits / 8) + i)) _ (omega arith)
      (λ i. bit_at_lt bytes (8 * (bits / 8) + i))
      (λ i h. padded_bit-own bytes bits (8 * (bits / 8) + i) (omega arith))
      (λ i h. padded_bit-past bytes bits (8 * (bits / 8) + (bits % 8 + i)) (omega arith)))

-- One digit more, and two.
module _ (f : ℕ → ℕ) (d : List ℕ) where
  pub one_more : (n u : ℕ) (hex : List ℕ) → n < length d → hex ≡ list_of n f ++ drop n d → u ≡ f n
      → set hex n u ≡ list_of (n + 1) f ++ drop (n + 1) d
  one_more n u hex h e eu = rw (e, eu) (list_of-more n f d h)

  pub two-more : (j u v : ℕ) (hex : List ℕ) → 2 * j + 1 < length d → hex ≡ list_of (2 * j) f ++ drop (2 * j) d → u ≡ f (2 * j)
      → v ≡ f (2 * j + 1) → set (set hex (2 * j) u) (2 * j + 1) v ≡ list_of (2 * (j + 1)) f ++ drop (2 * (j + 1)) d
  two-more j u v hex h e eu ev =
      one_more (2 * j + 1) v (set hex (2 * j) u) h (one_more (2 * j) u hex (omega arith) e eu) ev
      ∙ ap (λ (n : ℕ). list_of n f ++ drop n d) (omega arith)

-- What a call owes, by what its tests say.
module _ (bytes : List ℕ) (bits : ℕ) (hex : List ℕ) where
  pub all-printed : (n : ℕ) (after : List ℕ) → ends_within (length bytes) 0 bits ≡ true → digit_count bits ≤ length hex → n ≡ digit_count bits
      → after ≡ hex_of bytes bits ++ drop (digit_count bits) hex → Prints bytes bits hex (Ok n) after
  all-printed n after t l e d =
      let f = le-leb (digit_count bits) (length hex) l in
      let a : Ok n ≡ hex_answer bytes bits hex = rw (t, f, e) in
      record { answer = a; digits = rw (t, f) d; told = hex-told bytes bits hex a }

  pub past_bytes : ends_within (length bytes) 0 bits ≡ false → Prints bytes bits hex (Err (Malformed 0)) hex
  past_bytes t =
      let a : Err (Malformed 0) ≡ hex_answer bytes bits hex = rw t in
      record { answer = a; digits = rw t; told = hex-told bytes bits hex a }

  pub hex-short : ends_within (length bytes) 0 bits ≡ true → length hex < digit_count bits → Prints bytes bits hex (Err (TooShort 3)) hex
  hex-short t l =
      let f = lt-leb (digit_count bits) (length hex) l in
      let a : Err (TooShort 3) ≡ hex_answer bytes bits hex = rw (t, f) in
      record { answer = a; digits = rw (t, f); told = hex-told bytes bits hex a }
