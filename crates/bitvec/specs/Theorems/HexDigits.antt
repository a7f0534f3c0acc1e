-- Theorems about what HexDigits defines.
use Rattle.std.specs.Prelude.{◌≡◌, refl, Bool, true, false, List, ◌++◌, ℕ, ◌+◌, ◌-◌, ◌*◌, ◌≤◌, ◌<◌, leb, ltb, length, get_or, drop, Ok, Err, Result}
use Rattle.std.proofs.Common.{sym, ap, subst, ◌∙◌, arith, get_or-append-add, get_or-drop, lt-ltb, le-ltb, leb-true, leb-false}
use Rattle.prelude.specs.Pick.{pick}
use Rattle.prelude.specs.declared.Refusal.TheVariants.{Malformed, TooShort}
use Rattle.prelude.specs.declared.Refusal.{Refusal}
use Rattle.bitvec.specs.Within.{ends_within}
use Rattle.bitvec.specs.Laws.Lists.{length-list_of, get_d-list_of}
use Rattle.bitvec.specs.Numeral.{Bits}
use Rattle.bitvec.specs.Laws.Numeral.{pick-lt, numeral-lt}
use Rattle.bitvec.specs.Bits.{bit_at}
use Rattle.bitvec.specs.Laws.Bits.{bit_at_lt}
use Rattle.bitvec.specs.HexDigits.{HexTold, digit_at, digit_count, digit_of, digit_value, hex_answer, hex_of, padded_bit, past, printed, short, told_hex}

module _ (bytes : List ℕ) (bits : ℕ) (hex : List ℕ) where
  by_tests : (p r : Bool) → ends_within (length bytes) 0 bits ≡ p → leb (digit_count bits) (length hex) ≡ r
      → HexTold bytes bits hex (told_hex (pick p (pick r (Ok (digit_count bits)) (Err (TooShort 3))) (Err (Malformed 0))))
  by_tests false r e f = let h = leb-false (0 + bits) (8 * length bytes) e in past (omega arith)
  by_tests true false e f = let h = leb-true (0 + bits) (8 * length bytes) e in short (omega arith) (leb-false (digit_count bits) (length hex) f)
  by_tests true true e f = let h = leb-true (0 + bits) (8 * length bytes) e in printed (omega arith) (leb-true (digit_count bits) (length hex) f)

  pub hex-told : {count : Result ℕ Refusal} → count ≡ hex_answer bytes bits hex → HexTold bytes bits hex (told_hex count)
  hex-told e =
      subst (λ (x : Result ℕ Refusal). HexTold bytes bits hex (told_hex x)) (sym e)
      (by_tests (ends_within (length bytes) 0 bits) (leb (digit_count bits) (length hex)) refl refl)

module _ (bytes : List ℕ) (bits : ℕ) where
  pub padded_bit-lt : Bits (padded_bit bytes bits)
  unfolding padded_bit
  padded_bit-lt k = pick-lt (ltb k bits) (bit_at_lt bytes k) (omega arith)

  pub padded_bit-own : (k : ℕ) → k < bits → padded_bit bytes bits k ≡ bit_at bytes k
  unfolding padded_bit
  padded_bit-own k h = rw (lt-ltb k bits h)

  pub padded_bit-past : (k : ℕ) → bits ≤ k → padded_bit bytes bits k ≡ 0
  unfolding padded_bit
  padded_bit-past k h = rw (le-ltb k bits h)

  -- There are as many digits as the answer says.
  pub length-hex_of : length (hex_of bytes bits) ≡ digit_count bits
  length-hex_of = length-list_of (digit_count bits) (digit_at bytes bits)

  -- Digit k is the letter of a number below 16 ..
  pub hex_of-digit : (k : ℕ) → k < digit_count bits → get_or (hex_of bytes bits) k 0 ≡ digit_of (digit_value bytes bits k)
  unfolding digit_at
  hex_of-digit k h = get_d-list_of (digit_count bits) (digit_at bytes bits) k h

  pub digit_value-lt : (k : ℕ) → digit_value bytes bits k < 16
  unfolding digit_value
  digit_value-lt k = numeral-lt 4 (λ b. padded_bit bytes bits (4 * k + b)) (λ b. padded_bit-lt (4 * k + b))

  -- The lent hex keeps what it held past the digits.
  pub hex-kept : (hex : List ℕ) (k : ℕ) → digit_count bits ≤ k → get_or (hex_of bytes bits ++ drop (digit_count bits) hex) k 0 ≡ get_or hex k 0
  hex-kept hex k h =
      let past : k ≡ length (hex_of bytes bits) + (k - digit_count bits) = omega (arith, length-hex_of) in
      let back : digit_count bits + (k - digit_count bits) ≡ k = omega arith in
      ap (λ (i : ℕ). get_or (hex_of bytes bits ++ drop (digit_count bits) hex) i 0) past
      ∙ get_or-append-add (hex_of bytes bits) (drop (digit_count bits) hex) (k - digit_count bits) 0
      ∙ get_or-drop (digit_count bits) hex (k - digit_count bits) 0 ∙ ap (λ (i : ℕ). get_or hex i 0) back
