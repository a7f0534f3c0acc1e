-- Theorems about what Clear defines.
use Rattle.std.specs.Prelude.{◌≡◌, List, ℕ, ◌*◌, ◌/◌, length}
use Rattle.std.proofs.Math.Nat.{zero-div}
use Rattle.std.proofs.Math.Decide.{dec_lt}
use Rattle.std.proofs.Common.{arith}
use Rattle.std.proofs.lemmas.List.{length-replicate, get_or-replicate}
use Rattle.bitvec.specs.Bits.{bit_at}
use Rattle.bitvec.specs.Laws.Bits.{bit_at-past}
use Rattle.bitvec.specs.Clear.{cleared}

-- Every bit of a cleared image is zero.
pub cleared-bit : (image : List ℕ) (k : ℕ) → bit_at (cleared image) k ≡ 0
unfolding bit_at
cleared-bit image k =
    elim (dec_lt k (8 * length image)) [
      | yes h ↦ rw (get_or-replicate {A = ℕ} (length image) (k / 8) 0 0 (omega arith), zero-div)
      | no h ↦ bit_at-past (cleared image) k (omega (arith, length-replicate {A = ℕ} (length image) 0))
    ]
