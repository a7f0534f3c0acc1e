-- Laws that proofs about Within need.
use Rattle.std.specs.Prelude.{◌≡◌, true, false, ℕ, ◌+◌, ◌≤◌, ◌<◌}
use Rattle.std.proofs.Math.Decide.{dec_lt, dec_le}
use Rattle.std.proofs.Common.{arith, le-leb, lt-ltb, le-ltb}
use Rattle.std.proofs.lemmas.Bool.{lt-leb}
use Rattle.bitvec.specs.Within.{covers}

pub covers-inside : (at size k : ℕ) → at ≤ k → k < at + size → covers at size k ≡ true
unfolding covers
covers-inside at size k h l = rw (le-leb at k h) (lt-ltb k (at + size) l)

pub covers-before : (at size k : ℕ) → k < at → covers at size k ≡ false
unfolding covers
covers-before at size k h = rw (lt-leb at k h)

pub covers-after : (at size k : ℕ) → at + size ≤ k → covers at size k ≡ false
unfolding covers
covers-after at size k h = rw (le-leb at k (omega arith)) (le-ltb k (at + size) h)

-- Another bit is before the item or after it.
pub covers-not : (at size k : ℕ) → (at ≤ k → k < at + size → ⊥) → covers at size k ≡ false
covers-not at size k out =
    elim (dec_lt k at) [
      | yes h ↦ covers-before at size k h
      | no h ↦ covers-after at size k (elim (dec_le (at + size) k) [ yes l ↦ l | no l ↦ absurd (out (omega arith) (omega arith)) ])
    ]
