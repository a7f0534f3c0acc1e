-- What `dk_hex` says of the first bits of some bytes, from document 01.
use Rattle.std.specs.Prelude.{◌≡◌, List, ℕ, ◌+◌, ◌*◌, ◌≤◌, ◌<◌, length, get_or}
use Rattle.bitvec.specs.Bits.{bit_at}
use Rattle.c_answers.specs.declared.DkCount.{DkCount}
use Rattle.says.specs.Words.{Tries, Begins}

pub record Outcome : Type 0 where
  pub answer : DkCount
  pub hex : List ℕ

-- "lower case": the character of a value below 16, `0` to `9` from 48 on, `a` to `f` from 97 on
pub data Digit (value char : ℕ) : Type 0 where
  figure : value < 10 → char ≡ 48 + value → Digit value char
  letter : {i : ℕ} → i < 6 → value ≡ 10 + i → char ≡ 97 + i → Digit value char

module _ (bytes : List ℕ) (bits : ℕ) where
  -- Bit k of what is printed: the bytes' own, and behind the last "padded with zero bits", whatever the bytes hold there.
  pub data Bit (k : ℕ) : ℕ → Type 0 where
    own : k < bits → Bit k (bit_at bytes k)
    padding : bits ≤ k → Bit k 0

  -- "four bits a digit", the first of them the highest
  pub data Prints (k char : ℕ) : Type 0 where
    prints : {a b c d : ℕ} → Bit (4 * k) a → Bit (4 * k + 1) b → Bit (4 * k + 2) c → Bit (4 * k + 3) d → Digit (8 * a + 4 * b + 2 * c + d) char
        → Prints k char

  -- the digits: enough for all bits, and none without a bit of its own
  pub record Text (t : List ℕ) : Type 0 where
    pub enough : bits ≤ 4 * length t
    pub no_more : 4 * length t < bits + 4
    pub each : (k : ℕ) → k < length t → Prints k (get_or t k 0)

  module _ (old : List ℕ) where
    -- "Each refusal returns its number and a place and changes nothing lent."
    abbrev pub refusal : ℕ → ℕ → Outcome
    refusal number place = record { answer = record { refusal = number; place = place; count = 0 }; hex = old }

    -- the count of digits; "hex keep their old contents past what was written"
    pub data Accepts (t : List ℕ) : Outcome → Type 0 where
      accepts : {new : List ℕ} → Begins t old new → Accepts t (record { answer = record { refusal = 0; place = 0; count = length t }; hex = new })

    -- 14: "a lent output is too short: .. hex 3"
    pub data Printed (y : Outcome) : Type 0 where
      printed : {t : List ℕ} → Text t → Tries (λ (_ : Unit {0}). length old < length t) (λ _. refusal 14 3) (Accepts t) y → Printed y

    -- "hex calls try 4 (.. a bit length past the lent bytes), then 14"
    abbrev pub HexSays : Outcome → Type 0
    HexSays = Tries (λ (_ : Unit {0}). 8 * length bytes < bits) (λ _. refusal 4 0) Printed
