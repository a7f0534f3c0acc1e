-- Laws that Theorems/Bits rests on.
use Rattle.std.specs.Prelude.{◌≡◌, List, ℕ, ◌+◌, ◌*◌, ◌/◌, ◌%◌, ◌≤◌, ◌<◌, length, get_or}
use Rattle.std.proofs.Common.{sym, ◌∙◌, arith}
use Rattle.std.proofs.Math.Nat.{zero-div}
use Rattle.std.proofs.Math.ListN.{get_or-eq_default}
use Rattle.bitvec.specs.Numeral.{numeral, bit_of, Bits}
use Rattle.bitvec.specs.Laws.Numeral.{numeral-cong, numeral-bit_of}
use Rattle.bitvec.specs.Bits.{Bytes, bit_at}

pub bit_at_lt : (l : List ℕ) → Bits (bit_at l)
unfolding bit_at
bit_at_lt l i = omega arith

pub bit_at-past : (l : List ℕ) (k : ℕ) → 8 * length l ≤ k → bit_at l k ≡ 0
unfolding bit_at
bit_at-past l k h = rw (get_or-eq_default l 0 {n = k / 8} (omega arith), zero-div)

-- Bit b of byte j is bit 8 * j + b.
pub bit_at-byte : (l : List ℕ) (j b : ℕ) → b < 8 → bit_at l (8 * j + b) ≡ bit_of 8 (get_or l j 0) b
unfolding bit_at
bit_at-byte l j b h =
    let p : (8 * j + b) / 8 ≡ j = omega arith in
    let q : (8 * j + b) % 8 ≡ b = omega arith in
    rw (p, q)

-- A byte is the number that its eight bits make.
pub byte-numeral : (l : List ℕ) → Bytes l → (j : ℕ) → get_or l j 0 ≡ numeral 8 (λ b. bit_at l (8 * j + b))
byte-numeral l h j =
    sym
    (numeral-cong 8 (λ b. bit_at l (8 * j + b)) (bit_of 8 (get_or l j 0)) (bit_at-byte l j)
    ∙ numeral-bit_of 8 (get_or l j 0) (h j))
