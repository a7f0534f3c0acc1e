-- Theorems about what OneBit defines.
use Rattle.std.specs.Prelude.{ℕ, ◌^◌, ◌≡◌, refl, true, false, ◌↔◌}
use Rattle.std.proofs.Common.{sym, subst, le_refl, eqb-true, eq-eqb}
use Rattle.std.specs.Int.Count.{ones}
use Rattle.build_profile.specs.Laws.OneBit.{counted-power, of-power, power-counted, power-of}
use Rattle.build_profile.specs.OneBit.{ExactlyOne, OneSet, one_bit}

-- A number passes the test exactly when it is a power of two,
pub one-bit-power : (n : ℕ) → (one_bit n ≡ true) ↔ ((k : ℕ) × (n ≡ 2 ^ k))
one-bit-power n = (
  λ e. counted-power n n (le_refl n) (eqb-true (ones n) 1 e),
  λ p. eq-eqb (ones n) 1 (rw p.1 (power-counted p.0)),
)

-- and that is when exactly one of its bits is set.
pub one-bit-exactly : (n : ℕ) → (one_bit n ≡ true) ↔ ExactlyOne n
one-bit-exactly n = (
  λ e. let p = (one-bit-power n).0 e in (p.0, subst (λ (x : ℕ). OneSet x p.0) (sym p.1) (of-power p.0)),
  λ s. (one-bit-power n).1 (s.0, power-of s.0 n s.1),
)

-- So 0, of which no bit is set, does not.
pub zero-has-none : one_bit 0 ≡ false
unfolding ones
zero-has-none = refl
