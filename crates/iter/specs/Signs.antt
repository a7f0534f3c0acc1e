-- The two sides of 0 that the code goes on in, beside the integer that the definitions speak of.
use Rattle.std.specs.Prelude.{ℕ, suc, ◌-◌, ◌%◌, ℤ, pos, negsuc}
use Rattle.iter.specs.declared.alignment.InBits.{InBits}
use Rattle.iter.specs.declared.alignment.InBits.TheVariants.{Below, At}

-- so many bits from 0 on, or so many before it
abbrev pub in_bits : ℤ → InBits
in_bits (pos n) = At n
in_bits (negsuc n) = Below (suc n)

-- the remainder, on either side
abbrev pub remainder_of : InBits → ℕ → ℕ
remainder_of (At n) a = n % a
remainder_of (Below m) a = (a - m % a) % a
