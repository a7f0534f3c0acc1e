-- Laws that proofs about Signs need.
use Rattle.std.specs.Prelude.{ℕ, zero, suc, ◌≡◌, refl, ℤ, pos, negsuc, neg_ℤ, nat_abs, ◌+ℤ◌}
use Rattle.std.proofs.Math.Nat.{sub-zero}
use Rattle.std.proofs.Common.{zero-add}
use Rattle.std.proofs.Math.Dec.{leb-suc-zero}
use Rattle.std.proofs.Math.IntN.{sub_ℕ}
use Rattle.iter.specs.Distance.{size_of, remainder}
use Rattle.iter.specs.Signs.{in_bits, remainder_of}

-- the definitions' distance from 0 is the library's
pub size-nat_abs : (z : ℤ) → nat_abs z ≡ size_of z
size-nat_abs (pos n) = refl
size-nat_abs (negsuc n) = refl

pub remainder_of_lem : (z : ℤ) (a : ℕ) → remainder_of (in_bits z) a ≡ remainder z a
remainder_of_lem (pos n) a = refl
remainder_of_lem (negsuc n) a = refl

-- -m + p is p - m
pub neg-plus : (m p : ℕ) → neg_ℤ (pos m) +ℤ pos p ≡ sub_ℕ p m
neg-plus zero p = rw (leb-suc-zero p, zero-add p, sub-zero p)
neg-plus (suc k) p = refl
