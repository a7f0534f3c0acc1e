-- What the private steps of the crate owe each other. None of this is a notion of document 01: the public contracts do not name it.
use Rattle.std.specs.Prelude.{◌≡◌, List, ◌++◌, ℕ, ◌-◌, ◌*◌, ◌/◌, length, drop}
use Rattle.prelude.specs.Pick.{pick}
use Rattle.bitvec.specs.Within.{covers}
use Rattle.bitvec.specs.Lists.{list_of}
use Rattle.bitvec.specs.Numeral.{numeral, bit_of}
use Rattle.bitvec.specs.HexDigits.{digit_at, digit_count, hex_of}

-- A byte with its n bits from bit `at` on made those of the number `chunk`.
unfoldable pub spliced : ℕ → ℕ → ℕ → ℕ → ℕ
spliced old at n chunk = numeral 8 (λ b. pick (covers at n b) (bit_of n chunk (b - at)) (bit_of 8 old b))

-- The digits after those of the whole bytes: whatever the lent hex held at first, d, it holds past the digits.
pub record Completes (bytes : List ℕ) (bits : ℕ) (before after : List ℕ) : Type 0 where
  pub digits : (d : List ℕ) → length d ≡ length before
      → before ≡ list_of (2 * (bits / 8)) (digit_at bytes bits) ++ drop (2 * (bits / 8)) d
      → after ≡ hex_of bytes bits ++ drop (digit_count bits) d
