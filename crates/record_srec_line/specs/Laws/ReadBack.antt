-- Laws that Theorems/ReadBack rests on.
use Rattle.std.specs.Prelude.{◌≡◌, refl, true, List, [], ◌∷◌, ◌++◌, ◌⊎◌, ℕ, zero, suc, ◌+◌, ◌*◌, ◌/◌, ◌%◌, ◌^◌, ◌≤◌, length}
use Rattle.std.proofs.Common.{sym, ap, ◌∙◌, inl, inr, arith, div-one, pow-suc, div-add-mod'}
use Rattle.std.proofs.Math.Nat.{div-div-eq-div-mul}
use Rattle.bitvec.specs.Bits.{Bytes}
use Rattle.record_lines.specs.Digits.{bytes_text}
use Rattle.record_lines.specs.Uppers.{Upper, figure}
use Rattle.record_lines.specs.Sums.{sum_of}
use Rattle.record_srec_line.specs.Srec.{address_bytes, body_of, checksum_of, data_digit, end_digit}
use Rattle.record_srec_line.specs.Srec.{number_from, agrees, data_line, end_line, typed}
use Rattle.record_srec_line.specs.ReadBack.{Width, four, two}

-- ---- addresses

pub length-address : (w a : ℕ) → length (address_bytes w a) ≡ w
unfolding address_bytes
length-address zero a = refl
length-address (suc w) a = ap suc (length-address w a)

pub address-bytes : (w a : ℕ) → Bytes (address_bytes w a)
unfolding address_bytes
address-bytes zero a k = omega arith
address-bytes (suc w) a zero = omega arith
address-bytes (suc w) a (suc k) = address-bytes w a k

pub address-from : (w a : ℕ) → number_from (a / 256 ^ w) (address_bytes w a) ≡ a
unfolding address_bytes number_from
address-from zero a = div-one a
address-from (suc w) a =
    let up : a / 256 ^ suc w ≡ a / 256 ^ w / 256 = ap (λ (k : ℕ). a / k) (pow-suc 256 w) ∙ sym (div-div-eq-div-mul a (256 ^ w) 256) in
    ap (λ (n : ℕ). number_from (n * 256 + a / 256 ^ w % 256) (address_bytes w a)) up
    ∙ ap (λ (n : ℕ). number_from n (address_bytes w a)) (div-add-mod' (a / 256 ^ w) 256)
    ∙ address-from w a

-- ---- a line's fields

pub sum_one : (b : ℕ) → sum_of (b ∷ []) ≡ b
unfolding sum_of
sum_one b = omega arith

-- count, address, data and checksum, and the line that has them
abbrev pub whole_of : ℕ → ℕ → List ℕ → List ℕ
whole_of w a bytes = body_of w a bytes ++ (checksum_of (body_of w a bytes) ∷ [])

abbrev pub line_of : ℕ → ℕ → ℕ → List ℕ → List ℕ
line_of t w a bytes = 83 ∷ t ∷ bytes_text (whole_of w a bytes)

pub agrees-own : {w : ℕ} → Width w → {state : ℕ} → (state ≡ 0) ⊎ (state ≡ w) → agrees state w ≡ true
agrees-own two (inl e) = rw e
agrees-own two (inr e) = rw e
agrees-own four (inl e) = rw e
agrees-own four (inr e) = rw e

pub typed-data : {w : ℕ} → Width w → (state : ℕ) (l : List ℕ) → typed (data_digit w) state l ≡ data_line w state l
unfolding typed
typed-data two state l = refl
typed-data four state l = refl

pub typed-end : {w : ℕ} → Width w → (state : ℕ) (l : List ℕ) → typed (end_digit w) state l ≡ end_line w state l
unfolding typed
typed-end two state l = refl
typed-end four state l = refl

pub width_few : {w : ℕ} → Width w → w ≤ 4
width_few two = omega arith
width_few four = omega arith

-- ---- its characters

pub digit-data : {w : ℕ} → Width w → Upper (data_digit w)
digit-data two = figure {c = 49} (omega arith) (omega arith)
digit-data four = figure {c = 51} (omega arith) (omega arith)

pub digit-end : {w : ℕ} → Width w → Upper (end_digit w)
digit-end two = figure {c = 57} (omega arith) (omega arith)
digit-end four = figure {c = 55} (omega arith) (omega arith)
