-- The whole image as one block, in the lists that the program lends for it.
use Rattle.std.specs.Prelude.{◌≡◌, refl, [], ◌∷◌, ℕ, zero, suc, ◌+◌, ◌*◌, ◌/◌, min, take}
use Rattle.std.proofs.Common.{arith, ne_eqb}
use Rattle.record_write.specs.Cut.{blocks_in}
use Rattle.print_records.specs.Text.{whole_blocks}

pub whole_is : (bits : ℕ) → blocks_in (take (min bits 1) (0 ∷ [])) (take (min bits 1) (8 * ((bits + 7) / 8) ∷ [])) ≡ whole_blocks bits
unfolding blocks_in
whole_is zero = refl
whole_is (suc n) =
    let one : min (suc n) 1 ≡ 1 = omega arith in
    rw (one, ne_eqb (suc n) 0 (omega arith)) refl
