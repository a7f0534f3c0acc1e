-- Laws on the sign and the magnitude of an integer, for whoever goes on in natural numbers after a test of a sign: `mag z` is n for
-- n and for -(n + 1), so a negative z has the magnitude mag z + 1 and -1 - z is mag z. Assumes nothing.
use Rattle.std.specs.Prelude.{◌≡◌, refl, true, false, ◌&&◌, ℕ, suc, ◌+◌, T, leb, ℤ, pos, negsuc, nat_abs, ◌-ℤ◌}
use Rattle.std.proofs.Common.{sym, ◌∙◌, ap, subst, add-one, arith, ltb-true, le-ltb}
use Rattle.std.proofs.Math.Bool.{and-true}
use Rattle.std.proofs.Math.Dec.{leb-suc-suc}
use Rattle.std.specs.Int.Signed.{mag, lt_z, le_z, non_neg}

pub turned : (z : ℤ) → lt_z z (pos 0) ≡ true → negsuc 0 -ℤ z ≡ pos (mag z)
turned (pos n) e = absurd (omega (arith, ltb-true n 0 e))
turned (negsuc n) e = simp (le-ltb (suc n) 1 (omega arith)) (ap pos (omega arith))

pub abs-negative : (z : ℤ) → lt_z z (pos 0) ≡ true → mag z + 1 ≡ nat_abs z
abs-negative (pos n) e = absurd (omega (arith, ltb-true n 0 e))
abs-negative (negsuc n) e = add-one n

pub nonnegative : (z : ℤ) → lt_z z (pos 0) ≡ false → T (non_neg z)
nonnegative (pos n) e = tt
nonnegative (negsuc n) e = subst T e tt

pub abs-nonnegative : (z : ℤ) → lt_z z (pos 0) ≡ false → nat_abs z ≡ mag z
abs-nonnegative (pos n) e = refl
abs-nonnegative (negsuc n) e = absurd (subst T e tt)

-- A bound on both sides is a bound on the magnitude.
pub between : (k : ℕ) (z : ℤ) → (le_z (negsuc k) z && le_z z (pos (suc k))) ≡ leb (nat_abs z) (suc k)
between k (pos n) = refl
between k (negsuc n) = and-true (leb n k) ∙ sym (leb-suc-suc n k)
