-- Laws that Theorems/Ones rests on.
use Rattle.std.specs.Prelude.{◌≡◌, true, false, ℕ, ◌≤◌, ◌<◌}
use Rattle.std.proofs.Math.Decide.{dec_lt, dec_le}
use Rattle.std.proofs.Common.{arith, le-leb, lt-ltb, le-ltb}
use Rattle.std.proofs.lemmas.Bool.{lt-leb}
use Rattle.bitvec.specs.Ones.{between}

pub between-inside : (from end k : ℕ) → from ≤ k → k < end → between from end k ≡ true
unfolding between
between-inside from end k h l = rw (le-leb from k h) (lt-ltb k end l)

pub between-not : (from end k : ℕ) → (from ≤ k → k < end → ⊥) → between from end k ≡ false
unfolding between
between-not from end k out =
    elim (dec_le from k) [
      | yes h ↦ rw (le-leb from k h) (elim (dec_lt k end) [ yes l ↦ absurd (out h l) | no l ↦ le-ltb k end (omega arith) ])
      | no h ↦ rw (lt-leb from k (omega arith))
    ]
