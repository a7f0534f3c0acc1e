-- What the definitions of Cover say, bit by bit and block by block.
use Rattle.std.specs.Prelude.{◌≡◌, Bool, true, false, ℕ, ◌+◌, ◌-◌, ◌*◌, ◌/◌, ◌≤◌, ◌<◌}
use Rattle.std.proofs.Math.Path.{subst}
use Rattle.std.proofs.Math.Bool.{not}
use Rattle.std.proofs.Common.{arith}
use Rattle.std.proofs.lemmas.Bool.{not-true}
use Rattle.overlay.specs.Cover.{covered_byte, all_covered, none_covered}
use Rattle.overlay.specs.Laws.CoverFacts.{clash, either, every-from, every_holds}

-- A byte by its bits.
module _ (bit : ℕ → Bool) where
  pub byte-from : (b : ℕ) → ((k : ℕ) → 8 * b ≤ k → k < 8 * b + 8 → bit k ≡ true) → covered_byte bit b ≡ true
  unfolding covered_byte
  byte-from b h = every-from 8 (λ i. bit (8 * b + i)) (λ i l. h (8 * b + i) (omega arith) (omega arith))

  pub byte-holds : (b : ℕ) → covered_byte bit b ≡ true → (k : ℕ) → 8 * b ≤ k → k < 8 * b + 8 → bit k ≡ true
  unfolding covered_byte
  byte-holds b e k l h =
      subst (λ (j : ℕ). bit j ≡ true) (omega arith) (every_holds 8 (λ i. bit (8 * b + i)) e (k - 8 * b) (omega arith))

  pub byte-fails : (b k : ℕ) → 8 * b ≤ k → k < 8 * b + 8 → bit k ≡ false → covered_byte bit b ≡ false
  byte-fails b k l h e = either (covered_byte bit b) (λ t. absurd (clash (byte-holds b t k l h) e)) (λ t. t)

-- A range by its bytes and by its bits.
module _ (bit : ℕ → Bool) (first count : ℕ) where
  pub all-holds : all_covered bit first count ≡ true → (b : ℕ) → first ≤ b → b < first + count → covered_byte bit b ≡ true
  unfolding all_covered
  all-holds e b l h =
      subst (λ (j : ℕ). covered_byte bit j ≡ true) (omega arith)
      (every_holds count (λ i. covered_byte bit (first + i)) e (b - first) (omega arith))

  pub all_from : ((b : ℕ) → first ≤ b → b < first + count → covered_byte bit b ≡ true) → all_covered bit first count ≡ true
  unfolding all_covered
  all_from h = every-from count (λ i. covered_byte bit (first + i)) (λ i l. h (first + i) (omega arith) (omega arith))

  pub all-from-bits : ((k : ℕ) → 8 * first ≤ k → k < 8 * (first + count) → bit k ≡ true) → all_covered bit first count ≡ true
  all-from-bits h = all_from λ b l u. byte-from bit b (λ k m v. h k (omega arith) (omega arith))

  pub all-fails : (k : ℕ) → 8 * first ≤ k → k < 8 * (first + count) → bit k ≡ false → all_covered bit first count ≡ false
  all-fails k l h e =
      either (all_covered bit first count)
      (λ t. absurd (clash (byte-holds bit (k / 8) (all-holds t (k / 8) (omega arith) (omega arith)) k (omega arith) (omega arith)) e))
      (λ t. t)

  pub none-holds : none_covered bit first count ≡ true → (k : ℕ) → 8 * first ≤ k → k < 8 * (first + count) → bit k ≡ false
  unfolding none_covered
  none-holds e k l h =
      subst (λ (j : ℕ). bit j ≡ false) (omega arith)
      (not-true (bit (8 * first + (k - 8 * first))) (every_holds (8 * count) (λ i. not (bit (8 * first + i))) e (k - 8 * first) (omega arith)))

  pub none_from : ((k : ℕ) → 8 * first ≤ k → k < 8 * (first + count) → bit k ≡ false) → none_covered bit first count ≡ true
  unfolding none_covered
  none_from h =
      every-from (8 * count) (λ i. not (bit (8 * first + i))) (λ i l. rw (h (8 * first + i) (omega arith) (omega arith)))

  pub none-fails : (k : ℕ) → 8 * first ≤ k → k < 8 * (first + count) → bit k ≡ true → none_covered bit first count ≡ false
  none-fails k l h e = either (none_covered bit first count) (λ t. absurd (clash e (none-holds t k l h))) (λ t. t)
