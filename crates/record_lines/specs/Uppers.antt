-- Document 02, Ticket 1: "upper case, LF ends". The characters of a record that is written, and lines of them, each ended by an LF: such a text is cut into
-- the lines that it was made of.
use Rattle.std.specs.Prelude.{ℕ, ◌≤◌, List, [], ◌∷◌, ◌++◌}

-- 0 to 9, A to F, and the colon or the S in front.
pub data Upper : ℕ → Type 0 where
  figure : {c : ℕ} → 48 ≤ c → c ≤ 57 → Upper c
  letter : {c : ℕ} → 65 ≤ c → c ≤ 70 → Upper c
  colon : Upper 58
  ess : Upper 83

abbrev pub Uppers : List ℕ → Type 0
Uppers [] = Unit {0}
Uppers (c ∷ l) = Upper c × Uppers l

-- "LF ends"
unfoldable pub ended : List (List ℕ) → List ℕ
ended [] = []
ended (l ∷ ls) = l ++ (10 ∷ ended ls)
