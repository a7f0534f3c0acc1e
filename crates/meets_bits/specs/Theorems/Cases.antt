-- Document 01's case of hex, over the sentences: "ten ones in hex: `ffc`".
use Rattle.std.specs.Prelude.{◌≡◌, refl, List, ℕ, ◌+◌, ◌*◌, ◌≤◌, ◌<◌, length, get_or}
use Rattle.std.proofs.Common.{◌∙◌, arith}
use Rattle.bitvec.specs.Bits.{bit_at}
use Rattle.says.specs.Words.{refused, passed}
use Rattle.says.specs.Hex as says
use Rattle.says.specs.Hex.{Outcome, Digit, Bit, Prints, HexSays}

-- three digits, `f` 102, `f` 102 and `c` 99
pub record IsFfc (y : Outcome) : Type 0 where
  pub answer : y.answer ≡ record { refusal = 0; place = 0; count = 3 }
  pub first : get_or y.hex 0 0 ≡ 102
  pub second : get_or y.hex 1 0 ≡ 102
  pub third : get_or y.hex 2 0 ≡ 99

module _ (bytes : List ℕ) (ones : (k : ℕ) → k < 10 → bit_at bytes k ≡ 1) where
  one : (k x : ℕ) → k < 10 → Bit bytes 10 k x → x ≡ 1
  one k x h (says.own l) = ones k h
  one k x h (says.padding l) = absurd (omega arith)

  none : (k x : ℕ) → 10 ≤ k → Bit bytes 10 k x → x ≡ 0
  none k x h (says.own l) = absurd (omega arith)
  none k x h (says.padding l) = refl

  char_of : (v c : ℕ) → 10 ≤ v → Digit v c → c ≡ 87 + v
  char_of v c h (says.figure l e) = absurd (omega arith)
  char_of v c h (says.letter l e f) = omega arith

  all_ones : (k c : ℕ) → k < 2 → Prints bytes 10 k c → c ≡ 102
  all_ones k x h (says.prints {a} {b} {c} {d} p q r s t) =
      let v : 8 * a + 4 * b + 2 * c + d ≡ 15 =
      omega (
        arith,
        one (4 * k) a (omega arith) p,
        one (4 * k + 1) b (omega arith) q,
        one (4 * k + 2) c (omega arith) r,
        one (4 * k + 3) d (omega arith) s,
      ) in
      omega (arith, char_of (8 * a + 4 * b + 2 * c + d) x (omega arith) t)

  two-ones : (c : ℕ) → Prints bytes 10 2 c → c ≡ 99
  two-ones x (says.prints {a} {b} {c} {d} p q r s t) =
      let v : 8 * a + 4 * b + 2 * c + d ≡ 12 =
      omega (arith, one 8 a (omega arith) p, one 9 b (omega arith) q, none 10 c (omega arith) r, none 11 d (omega arith) s) in
      omega (arith, char_of (8 * a + 4 * b + 2 * c + d) x (omega arith) t)

  module _ (old : List ℕ) (held : 10 ≤ 8 * length bytes) (room : 3 ≤ length old) where
    pub ten-ones-ffc : (y : Outcome) → HexSays bytes 10 old y → IsFfc y
    ten-ones-ffc y (refused x past) = absurd (omega arith)
    ten-ones-ffc y (passed n (says.printed {t} text (refused x short))) = absurd (omega (arith, text.no_more))
    ten-ones-ffc y (passed n (says.printed {t} text (passed m (says.accepts b)))) =
        let three : length t ≡ 3 = omega (arith, text.enough, text.no_more) in
        record {
          answer = rw three;
          first = b.front 0 (omega arith) ∙ all_ones 0 (get_or t 0 0) (omega arith) (text.each 0 (omega arith));
          second = b.front 1 (omega arith) ∙ all_ones 1 (get_or t 1 0) (omega arith) (text.each 1 (omega arith));
          third = b.front 2 (omega arith) ∙ two-ones (get_or t 2 0) (text.each 2 (omega arith));
        }
