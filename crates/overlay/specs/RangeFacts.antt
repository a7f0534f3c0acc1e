-- What a range is answered, in the document's words: each answer exactly when, and the bytes handed back.
use Rattle.std.specs.Prelude.{◌≡◌, true, ℕ, ◌+◌, ◌*◌, ◌≤◌, ◌<◌}
use Rattle.overlay.specs.Cover.{covered_bit}
use Rattle.overlay.specs.Trial.{Trial}

-- The words of the theorems: which bits the overlay covers, and a byte that it covers whole.
abbrev pub Covered : Trial → ℕ → Type 0
Covered t k = covered_bit t.offsets t.sizes k ≡ true

abbrev pub WhollyCovered : Trial → ℕ → Type 0
WhollyCovered t b = (k : ℕ) → 8 * b ≤ k → k < 8 * b + 8 → Covered t k

-- "every byte of the range is covered"; "no bit of it is"
abbrev pub AllCovered : Trial → ℕ → ℕ → Type 0
AllCovered t first count = (b : ℕ) → first ≤ b → b < first + count → WhollyCovered t b

abbrev pub NoneCovered : Trial → ℕ → ℕ → Type 0
NoneCovered t first count = (k : ℕ) → 8 * first ≤ k → k < 8 * (first + count) → Covered t k → ⊥
