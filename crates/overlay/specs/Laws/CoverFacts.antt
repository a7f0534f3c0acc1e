-- Laws that Theorems/CoverFacts rests on.
use Rattle.std.specs.Prelude.{◌≡◌, refl, Bool, true, false, List, [], ◌∷◌, ℕ, zero, suc, ◌+◌, ◌≤◌, ◌<◌, length, get_or}
use Rattle.std.proofs.Common.{sym, ◌∙◌, subst, arith}
use Rattle.std.proofs.Math.Bool.{and-eq-true_iff, or-true}
use Rattle.std.proofs.lemmas.Bool.{false≢true}
use Rattle.std.proofs.Math.Decide.{dec_lt}
use Rattle.bitvec.specs.Within.{covers}
use Rattle.bitvec.specs.Laws.Within.{covers-inside, covers-not}
use Rattle.overlay.specs.Cover.{covered_bit, every}

-- A test holds or fails, and not both.
pub either {ℓ} : {X : Type ℓ} (b : Bool) → (b ≡ true → X) → (b ≡ false → X) → X
either true f g = f refl
either false f g = g refl

pub clash : {b : Bool} → b ≡ true → b ≡ false → ⊥
clash e f = false≢true (sym f ∙ e)

pub every_holds : (n : ℕ) (test : ℕ → Bool) → every n test ≡ true → (i : ℕ) → i < n → test i ≡ true
unfolding every
every_holds zero test e i h = absurd (omega arith)
every_holds (suc n) test e i h =
    let both = (and-eq-true_iff (every n test) (test n)).0 e in
    elim (dec_lt i n) [
      | yes l ↦ every_holds n test both.0 i l
      | no l ↦ subst (λ (j : ℕ). test j ≡ true) (omega arith) both.1
    ]

pub every-from : (n : ℕ) (test : ℕ → Bool) → ((i : ℕ) → i < n → test i ≡ true) → every n test ≡ true
unfolding every
every-from zero test h = refl
every-from (suc n) test h = rw (every-from n test (λ i l. h i (omega arith)), h n (omega arith))

-- A bit by the blocks.
pub covered-by : (os ss : List ℕ) (i k : ℕ) → i < length os → length os ≡ length ss
    → get_or os i 0 ≤ k → k < get_or os i 0 + get_or ss i 0 → covered_bit os ss k ≡ true
unfolding covered_bit
covered-by [] ss i k h p l u = absurd (omega arith)
covered-by (o ∷ os) [] i k h p l u = absurd (omega arith)
covered-by (o ∷ os) (s ∷ ss) zero k h p l u = rw (covers-inside o s k l u)
covered-by (o ∷ os) (s ∷ ss) (suc i) k h p l u = rw (covered-by os ss i k (omega arith) (omega arith) l u) (or-true (covers o s k))

pub uncovered : (os ss : List ℕ) (k : ℕ)
    → ((i : ℕ) → i < length os → get_or os i 0 ≤ k → k < get_or os i 0 + get_or ss i 0 → ⊥) → covered_bit os ss k ≡ false
unfolding covered_bit
uncovered [] ss k out = refl
uncovered (o ∷ os) [] k out = refl
uncovered (o ∷ os) (s ∷ ss) k out =
    rw (covers-not o s k (λ l u. out 0 (omega arith) l u)) (uncovered os ss k (λ i h. out (suc i) (omega arith)))
