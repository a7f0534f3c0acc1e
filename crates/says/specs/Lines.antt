-- Lines that the programs print: a word, numbers in decimal with a space before each, and LF. Each character is one byte, its ASCII code. And what it is to
-- show a text: at the front of a buffer.
use Rattle.std.specs.Prelude.{List, [], ◌∷◌, ◌++◌, ℕ, ◌+◌, ◌*◌, ◌≤◌, ◌<◌, length, take}
use Rattle.print_text.specs.Ascii.{ascii}

-- A number: most significant digit first, no leading zeros; `0` is 48.
pub data Decimal : ℕ → List ℕ → Type 0 where
  digit : {d : ℕ} → d < 10 → Decimal d ((48 + d) ∷ [])
  more : {n d : ℕ} {t : List ℕ} → 0 < n → Decimal n t → d < 10 → Decimal (10 * n + d) (t ++ ((48 + d) ∷ []))

-- "one space between"
pub data Spaced : List ℕ → List ℕ → Type 0 where
  end : Spaced [] []
  next : {n : ℕ} {ns d t : List ℕ} → Decimal n d → Spaced ns t → Spaced (n ∷ ns) (ascii " " ++ d ++ t)

pub data Line (word numbers : List ℕ) : List ℕ → Type 0 where
  ended : {t : List ℕ} → Spaced numbers t → Line word numbers (word ++ t ++ ascii "\n")

-- The first `count` bytes of a buffer are a text of which this is said.
pub record Shows (Says : List ℕ → Type 0) (count : ℕ) (buffer : List ℕ) : Type 0 where
  pub within : count ≤ length buffer
  pub says : Says (take count buffer)
