-- How far a walk has come in a list of blocks, and runs written one behind the other into what is lent for them, as far as that goes.
use Rattle.std.specs.Prelude.{◌≡◌, List, map, ℕ, ◌+◌, ◌*◌, ◌≤◌, ◌<◌, length, get_or}
use Rattle.std.proofs.lemmas.List.Edits.{sets}
use Rattle.verify.specs.Runs.{Run}

-- i blocks end at or before byte b, and the next does not.
pub record Cursor (os ss : List ℕ) (b i : ℕ) : Type 0 where
  pub few : i ≤ length os
  pub below : (m : ℕ) → m < i → get_or os m 0 + get_or ss m 0 ≤ 8 * b
  pub past : i < length os → 8 * b < get_or os i 0 + get_or ss i 0

-- The columns in which runs are written.
abbrev pub firsts : List Run → List ℕ
firsts = map (λ r. r.first)

abbrev pub counts : List Run → List ℕ
counts = map (λ r. r.count)

abbrev pub kinds : List Run → List ℕ
kinds = map (λ r. r.kind)

-- What is lent, with `runs` stored from the place n on, and the count after them.
pub record Put (runs : List Run) (n : ℕ) (fs₀ cs₀ ks₀ : List ℕ) (r : ℕ) (fs₁ cs₁ ks₁ : List ℕ) : Type 0 where
  pub counted : r ≡ n + length runs
  pub first : fs₁ ≡ sets fs₀ n (firsts runs)
  pub second : cs₁ ≡ sets cs₀ n (counts runs)
  pub third : ks₁ ≡ sets ks₀ n (kinds runs)
