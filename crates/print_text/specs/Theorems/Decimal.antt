-- Theorems about what Decimal defines.
use Rattle.std.specs.Prelude.{[], ◌∷◌, ℕ, zero, suc, ◌/◌, ◌%◌, ◌^◌, ◌≤◌, ◌<◌, length}
use Rattle.std.proofs.Common.{div-lt_iff_lt-mul, zero-lt-suc, arith, length-append, le-ltb, lt-ltb}
use Rattle.std.proofs.Math.Decide.{dec_lt}
use Rattle.print_text.specs.Decimal.{decimal, digit, digits_in}
use Rattle.print_text.specs.Laws.Decimal.{few}

-- A number below a power of ten has no more digits than the power has zeros.
pub decimal-length : (k n : ℕ) → n < 10 ^ suc k → length (decimal n) ≤ suc k
unfolding decimal digits_in
decimal-length k n h = go k (suc n) n h
  where
    go : (k steps n : ℕ) → n < 10 ^ suc k → length (digits_in steps n) ≤ suc k
    go k zero n h = omega arith
    go zero (suc steps) n h = rw (lt-ltb n 10 (omega arith)) (omega arith)
    go (suc k) (suc steps) n h =
        elim (dec_lt n 10) [
          | yes few ↦ rw (lt-ltb n 10 few) (omega arith)
          | no many ↦
              rw (le-ltb n 10 (omega arith))
              (omega
              (arith, length-append (digits_in steps (n / 10)) (digit (n % 10) ∷ []), go k steps (n / 10) ((div-lt_iff_lt-mul (zero-lt-suc 9)).1 (omega arith))))
        ]
