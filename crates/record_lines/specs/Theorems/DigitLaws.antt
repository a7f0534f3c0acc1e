-- Laws of digits: what each range of characters stands for, and that a byte which is written is read back.
use Rattle.std.specs.Prelude.{◌≡◌, ℕ, ◌+◌, ◌-◌, ◌<◌, ◌≤◌}
use Rattle.std.proofs.Common.{◌∙◌, arith}
use Rattle.std.proofs.Math.Decide.{dec_lt}
use borrow.Author.Tests.{le-leb, lt-leb, lt-ltb, le-ltb}
use Rattle.record_lines.specs.Digits.{letter_of, value_of}

module _ (c : ℕ) where
  pub value-below : c < 48 → value_of c ≡ 16
  unfolding value_of
  value-below h = rw (lt-leb 48 c h, lt-leb 65 c (omega arith), lt-leb 97 c (omega arith))

  pub value-figure : 48 ≤ c → c < 58 → value_of c ≡ c - 48
  unfolding value_of
  value-figure h k = rw (le-leb 48 c h, le-leb c 57 (omega arith))

  pub value-between : 58 ≤ c → c < 65 → value_of c ≡ 16
  unfolding value_of
  value-between h k = rw (le-leb 48 c (omega arith), lt-leb c 57 (omega arith), lt-leb 65 c (omega arith), lt-leb 97 c (omega arith))

  pub value-upper : 65 ≤ c → c < 71 → value_of c ≡ c - 55
  unfolding value_of
  value-upper h k = rw (le-leb 48 c (omega arith), lt-leb c 57 (omega arith), le-leb 65 c h, le-leb c 70 (omega arith))

  pub value-middle : 71 ≤ c → c < 97 → value_of c ≡ 16
  unfolding value_of
  value-middle h k =
      rw (le-leb 48 c (omega arith), lt-leb c 57 (omega arith), le-leb 65 c (omega arith), lt-leb c 70 (omega arith), lt-leb 97 c (omega arith))

  pub value-lower : 97 ≤ c → c < 103 → value_of c ≡ c - 87
  unfolding value_of
  value-lower h k =
      rw (
        le-leb 48 c (omega arith),
        lt-leb c 57 (omega arith),
        le-leb 65 c (omega arith),
        lt-leb c 70 (omega arith),
        le-leb 97 c h,
        le-leb c 102
            (omega arith),
      )

  pub value-above : 103 ≤ c → value_of c ≡ 16
  unfolding value_of
  value-above h =
      rw (
        le-leb 48 c (omega arith),
        lt-leb c 57 (omega arith),
        le-leb 65 c (omega arith),
        lt-leb c 70 (omega arith),
        le-leb 97 c (omega arith),
        lt-leb c 102 (omega arith),
      )

-- A letter that is written stands for its number.
pub value-of-letter : (n : ℕ) → n < 16 → value_of (letter_of n) ≡ n
value-of-letter n h =
    elim (dec_lt n 10) [
      | yes p ↦ rw (lt-ltb n 10 p) (value-figure (48 + n) (omega arith) (omega arith) ∙ omega arith)
      | no p ↦ rw (le-ltb n 10 (omega arith)) (value-upper (55 + n) (omega arith) (omega arith) ∙ omega arith)
    ]
