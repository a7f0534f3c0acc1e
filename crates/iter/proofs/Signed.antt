-- A bank whose addresses can be told: a start and whole units stay within 64 bits.
use Rattle.std.specs.Prelude.{Ok}
use Prim.Native.Nat.{ℕ, suc, ◌-◌, ◌/◌, ◌≤◌, ◌<◌, ◌^◌}
use mathlib.Core.Path.{◌≡◌, sym}
use mathlib.Core.Bool.{Bool, true, false, not, cond}
use native.Mathlib.Nat.{div-le_self, lt_of_le_of_lt}
use native.Mathlib.Omega.{arith}
use lib.Dec.{eqb, ltb}
use lib.IntN.{ℤ, pos, negsuc, nat_abs, ◌+ℤ◌}
use mir.Syntax.{w64}
use mir.Val.{to_z, of_z, SFits}
use mir.Facts.{to_z-of_z}
use borrow.Author.Tests.{leb-true}
use Rattle.prelude.specs.Limits.{max_start}
use Rattle.prelude.specs.Laws.Bools.{both}
use Rattle.bankdef.specs.declared.Bankdef.{Bankdef}
use Rattle.iter.specs.Distance.{size_of, tellable}
use Rattle.iter.specs.Laws.Signs.{size-nat_abs}
use Rattle.iter.specs.Address.{address_of}
use Rattle.iter.specs.Theorems.ToldFacts.{address-when}

pub start-within : (def : Bankdef) → tellable def ≡ true → nat_abs def.start ≤ max_start
start-within def e = rw (size-nat_abs def.start) (leb-true (size_of def.start) max_start (both (not (eqb def.unit 0)) _ e).1)

either-fits : (b : Bool) (x y : ℕ) → x < 2 ^ 63 → y < 2 ^ 63 → SFits w64 (cond b (negsuc x) (pos y))
either-fits true x y h k = record { sfits = h }
either-fits false x y h k = record { sfits = k }

-- a start within its limit and units below 2^32 stay within 64 bits
pub sum_fits : (z : ℤ) (n : ℕ) → nat_abs z ≤ max_start → n < 2 ^ 32 → SFits w64 (z +ℤ pos n)
sum_fits (pos m) n h k = record { sfits = omega arith }
sum_fits (negsuc m) n h k = either-fits (ltb n (suc m)) (suc m - suc n) (n - suc m) (omega arith) (omega arith)

-- the start and the units, read back from their bits, are the address
pub address-read : (def : Bankdef) (position node : ℕ) (units : ℤ) → tellable def ≡ true → SFits w64 def.start → position < 2 ^ 32
    → units ≡ pos (position / def.unit)
    → Ok (to_z w64 (of_z w64 (to_z w64 (of_z w64 def.start) +ℤ to_z w64 (of_z w64 units)))) ≡ address_of def position node
address-read def position node units tells given short e =
    let few : position / def.unit < 2 ^ 32 = lt_of_le_of_lt (div-le_self position def.unit) short in
    let k : SFits w64 (pos (position / def.unit)) = record { sfits = omega arith } in
    let sum : SFits w64 (def.start +ℤ pos (position / def.unit)) = sum_fits def.start (position / def.unit) (start-within def tells) few in
    rw (e, to_z-of_z given, to_z-of_z k, to_z-of_z sum) (sym (address-when def position node tells))
