-- Laws that proofs about Marks need.
use Rattle.std.specs.Prelude.{◌≡◌, refl, Bool, true, false, ℤ, pos, nat_abs, Option, ℕ, None, Some}
use Rattle.std.specs.Int.Signed.{lt_z}
use Rattle.prelude.specs.Pick.{pick}
use Rattle.print_map.specs.Cells.{number, minus, signed, optional}
use Rattle.print_map.specs.Marks.{cell_of, mark_of, sign_of, value_of}

pub is_signed : (z : ℤ) → cell_of (sign_of z) (nat_abs z) ≡ signed z
is_signed z = by (lt_z z (pos 0))
  where
    by : (t : Bool) → cell_of (pick t 1 0) (nat_abs z) ≡ pick t (minus (nat_abs z)) (number (nat_abs z))
    by true = refl
    by false = refl

pub is-optional : (o : Option ℕ) → cell_of (mark_of o) (value_of o) ≡ optional o
is-optional None = refl
is-optional (Some n) = refl
