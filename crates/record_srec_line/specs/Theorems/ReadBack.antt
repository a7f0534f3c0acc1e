-- Theorems about what ReadBack defines.
use Rattle.std.specs.Prelude.{◌≡◌, refl, true, List, [], ◌∷◌, ◌++◌, ◌⊎◌, ℕ, suc, ◌+◌, ◌-◌, ◌*◌, ◌%◌, ◌^◌, ◌<◌, ◌≤◌, drop, take}
use Rattle.std.proofs.Common.{sym, ap, ◌∙◌, append_assoc, length-append, take_at, drop_at, take_all}
use native.Mathlib.Omega.{arith}
use Rattle.std.proofs.Math.ListN.{length}
use Rattle.std.proofs.Math.Nat.{div-eq_of_lt}
use borrow.Author.Tests.{lt-ltb, le-leb, eq-eqb}
use Rattle.bitvec.specs.Bits.{Bytes}
use Rattle.record_lines.specs.Digits.{bytes_at}
use Rattle.record_lines.specs.Laws.DigitLaws.{length-bytes_text}
use Rattle.record_lines.specs.Laws.Spelled.{bytes-none, digits-written, pair-behind, bytes-behind, bytes-append, bytes-cons}
use Rattle.record_lines.specs.Uppers.{ess, Uppers}
use Rattle.record_lines.specs.Laws.Uppers.{bytes-upper}
use Rattle.record_lines.specs.Items.{gives, ends}
use Rattle.record_lines.specs.Sums.{sum_of}
use Rattle.record_lines.specs.Laws.Sums.{sum-append}
use Rattle.record_srec_line.specs.Srec.{address_bytes, body_of, checksum_of, line_text, data_digit, end_digit}
use Rattle.record_srec_line.specs.Srec.{number_from, count_of, is_sound, agrees, data_line, end_line, srec_item}
use Rattle.record_srec_line.specs.Laws.ReadBack.{address-bytes, address-from, agrees-own, digit-data, digit-end, length-address}
use Rattle.record_srec_line.specs.Laws.ReadBack.{line_of, sum_one, typed-data, typed-end, whole_of, width_few}
use Rattle.record_srec_line.specs.ReadBack.{Width}

pub address-back : (w a : ℕ) → a < 256 ^ w → number_from 0 (address_bytes w a) ≡ a
address-back w a h = ap (λ (n : ℕ). number_from n (address_bytes w a)) (sym (div-eq_of_lt h)) ∙ address-from w a

module _ (t w a : ℕ) (bytes : List ℕ) (good : Bytes bytes) (few : w + length bytes + 1 < 256) where
  abbrev whole : List ℕ
  whole = whole_of w a bytes

  abbrev line : List ℕ
  line = line_of t w a bytes

  whole-bytes : Bytes whole
  whole-bytes =
      bytes-append (body_of w a bytes) (checksum_of (body_of w a bytes) ∷ [])
      (bytes-cons (w + length bytes + 1) (address_bytes w a ++ bytes) few (bytes-append (address_bytes w a) bytes (address-bytes w a) good))
      (bytes-cons (checksum_of (body_of w a bytes)) [] (omega arith) bytes-none)

  length_whole : length whole ≡ w + length bytes + 2
  length_whole =
      omega
      (arith, length-append (body_of w a bytes) (checksum_of (body_of w a bytes) ∷ []), length-append (address_bytes w a) bytes, length-address w a)

  line-count : count_of line ≡ w + length bytes + 1
  line-count = pair-behind (83 ∷ t ∷ []) whole whole-bytes 0 (omega (arith, length_whole))

  line-address : bytes_at line 4 w ≡ address_bytes w a
  line-address =
      bytes-behind (83 ∷ t ∷ []) whole whole-bytes 1 w (omega (arith, length_whole))
      ∙ ap (take w) (append_assoc (address_bytes w a) bytes (checksum_of (body_of w a bytes) ∷ []))
      ∙ take_at (address_bytes w a) (bytes ++ (checksum_of (body_of w a bytes) ∷ [])) w (length-address w a)

  line-data : bytes_at line (4 + 2 * w) (length bytes) ≡ bytes
  line-data =
      let e : 4 + 2 * w ≡ 2 + 2 * (1 + w) = omega arith in
      let f : 1 + w ≡ suc w = omega arith in
      ap (λ (i : ℕ). bytes_at line i (length bytes)) e
      ∙ bytes-behind (83 ∷ t ∷ []) whole whole-bytes (1 + w) (length bytes) (omega (arith, length_whole))
      ∙ ap (λ (i : ℕ). take (length bytes) (drop i whole)) f
      ∙ ap (λ (l : List ℕ). take (length bytes) (drop w l)) (append_assoc (address_bytes w a) bytes (checksum_of (body_of w a bytes) ∷ []))
      ∙ ap (take (length bytes)) (drop_at (address_bytes w a) (bytes ++ (checksum_of (body_of w a bytes) ∷ [])) w (length-address w a))
      ∙ take_at bytes (checksum_of (body_of w a bytes) ∷ []) (length bytes) refl

  line-sum : sum_of (bytes_at line 2 (w + length bytes + 1 + 1)) % 256 ≡ 255
  line-sum =
      let body = body_of w a bytes in
      let all : bytes_at line 2 (w + length bytes + 1 + 1) ≡ whole =
      bytes-behind (83 ∷ t ∷ []) whole whole-bytes 0 (w + length bytes + 1 + 1) (omega (arith, length_whole))
      ∙ take_all (w + length bytes + 1 + 1) whole (omega (arith, length_whole)) in
      ap (λ (l : List ℕ). sum_of l % 256) all
      ∙ ap (λ (n : ℕ). n % 256) (sum-append body (checksum_of body ∷ []) ∙ ap (λ (n : ℕ). sum_of body + n) (sum_one (checksum_of body)))
      ∙ omega arith

  line-sound : is_sound line ≡ true
  unfolding is_sound
  line-sound =
      let long : length line ≡ 4 + 2 * (w + length bytes + 1) = omega (arith, length-bytes_text whole, length_whole) in
      rw (
        line-count,
        le-leb 4 (length line) (omega arith),
        digits-written whole whole-bytes,
        eq-eqb (length line) (4 + 2 * (w + length bytes + 1)) long,
        line-sum,
      )

  module _ (state : ℕ) (own : agrees state w ≡ true) where
    data-own : a < 256 ^ w → a + length bytes ≤ 256 ^ w → data_line w state line ≡ gives a bytes w
    unfolding data_line
    data-own ha fit =
        let left : w + length bytes + 1 - w - 1 ≡ length bytes = omega arith in
        rw (
          own,
          line-count,
          left,
          line-address,
          address-back w a ha,
          line-data,
          lt-ltb w (w + length bytes + 1) (omega arith),
          le-leb (a + length bytes) (256 ^ w) fit,
        )

    end-own : length bytes ≡ 0 → end_line w state line ≡ ends
    unfolding end_line
    end-own none = rw (own, line-count, eq-eqb (w + length bytes + 1) (w + 1) (omega arith))

-- A data line gives its bytes from its address on, while no width or its own is in force.
pub data-back : {w : ℕ} (v : Width w) {state : ℕ} → (state ≡ 0) ⊎ (state ≡ w) → (a : ℕ) (bytes : List ℕ) → Bytes bytes → length bytes ≤ 250
    → a < 256 ^ w → a + length bytes ≤ 256 ^ w → srec_item state (line_text (data_digit w) w a bytes) ≡ gives a bytes w
unfolding srec_item line_text
data-back {w} v {state} s a bytes good some ha fit =
    let few : w + length bytes + 1 < 256 = omega (arith, width_few v) in
    rw (line-sound (data_digit w) w a bytes good few)
    (typed-data v state (line_of (data_digit w) w a bytes) ∙ data-own (data_digit w) w a bytes good few state (agrees-own v s) ha fit)

-- An end line ends the file.
pub end_back : {w : ℕ} (v : Width w) {state : ℕ} → (state ≡ 0) ⊎ (state ≡ w) → srec_item state (line_text (end_digit w) w 0 []) ≡ ends
unfolding srec_item line_text
end_back {w} v {state} s =
    let few : w + 0 + 1 < 256 = omega (arith, width_few v) in
    rw (line-sound (end_digit w) w 0 [] bytes-none few)
    (typed-end v state (line_of (end_digit w) w 0 []) ∙ end-own (end_digit w) w 0 [] bytes-none few state (agrees-own v s) refl)

-- Both are sound by the reader's own rule.
pub data-sound : {w : ℕ} → Width w → (a : ℕ) (bytes : List ℕ) → Bytes bytes → length bytes ≤ 250 → is_sound (line_text (data_digit w) w a bytes) ≡ true
unfolding line_text
data-sound {w} v a bytes good some = line-sound (data_digit w) w a bytes good (omega (arith, width_few v))

pub end-sound : {w : ℕ} → Width w → is_sound (line_text (end_digit w) w 0 []) ≡ true
unfolding line_text
end-sound {w} v = line-sound (end_digit w) w 0 [] bytes-none (omega (arith, width_few v))

-- "upper case": every character of a line that is written.
pub data-upper : {w : ℕ} → Width w → (a : ℕ) (bytes : List ℕ) → Bytes bytes → length bytes ≤ 250 → Uppers (line_text (data_digit w) w a bytes)
unfolding line_text
data-upper {w} v a bytes good some =
    let few : w + length bytes + 1 < 256 = omega (arith, width_few v) in
    (ess, (digit-data v, bytes-upper (whole_of w a bytes) (whole-bytes (data_digit w) w a bytes good few)))

pub end-upper : {w : ℕ} → Width w → Uppers (line_text (end_digit w) w 0 [])
unfolding line_text
end-upper {w} v =
    let few : w + 0 + 1 < 256 = omega (arith, width_few v) in
    (ess, (digit-end v, bytes-upper (whole_of w 0 []) (whole-bytes (end_digit w) w 0 [] bytes-none few)))
