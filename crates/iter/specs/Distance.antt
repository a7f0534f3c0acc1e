-- The distance to an alignment, over the integers (document 01, "The walk").
use Rattle.std.specs.Prelude.{ℕ, suc, ◌-◌, ◌/◌, ◌%◌, Bool, not, ◌&&◌, eqb, leb, ℤ, pos, negsuc, ◌+ℤ◌, ◌*ℤ◌, Result, Ok, Err}
use Rattle.prelude.specs.Limits.{max_start}
use Rattle.prelude.specs.Pick.{pick}
use Rattle.prelude.specs.declared.Refusal.TheVariants.{Malformed}
use Rattle.prelude.specs.declared.Refusal.{Refusal}
use Rattle.bankdef.specs.declared.Bankdef.{Bankdef}
use Rattle.iter.specs.declared.Skipped.{Skipped}

-- how far an address is from 0
abbrev pub size_of : ℤ → ℕ
size_of (pos n) = n
size_of (negsuc n) = suc n

-- "address unit: 1 to 65,535 bits; start address: -2^40 to 2^40": a bank whose addresses can be told. (The unit's upper limit is its
-- type's.)
abbrev pub tellable : Bankdef → Bool
tellable def = not (eqb def.unit 0) && leb (size_of def.start) max_start

-- "start × unit + position"
abbrev pub address_in_bits : Bankdef → ℕ → ℤ
address_in_bits def position = (def.start *ℤ pos def.unit) +ℤ pos position

-- "with r the remainder .. by A, it is 0 for r = 0 and A - r for others"
abbrev pub gap : ℕ → ℕ → ℕ
gap r a = pick (eqb r 0) 0 (a - r)

-- "Use the remainder from 0 to alignment - 1: address -3 in bits with alignment 8 has remainder 5" (document 02, Ticket 3): of -m it is
-- what the alignment has beyond the remainder of m.
abbrev pub remainder : ℤ → ℕ → ℕ
remainder (pos n) a = n % a
remainder (negsuc n) a = (a - suc n % a) % a

-- "The distance to alignment A is 0 for A = 0. Otherwise, with r the remainder of start × unit + position by A, it is 0 for r = 0 and
-- A - r for others."
abbrev pub distance_to : ℤ → ℕ → ℕ
distance_to z a = pick (eqb a 0) 0 (gap (remainder z a) a)

-- "The distance to alignment should come with the count of whole address units it skips (distance over unit, rounded down)" (document 02,
-- Ticket 2)
abbrev pub skips_of : Bankdef → ℕ → Skipped
skips_of def bits = record { bits = bits; units = bits / def.unit }

abbrev pub no_skip : Skipped
no_skip = record { bits = 0; units = 0 }

-- The distance of a position in a bank. `node` is the place of a refusal: 0 in a call of its own.
unfoldable pub distance_of : Bankdef → ℕ → ℕ → ℕ → Result Skipped Refusal
distance_of def position a node = pick (tellable def) (Ok (skips_of def (distance_to (address_in_bits def position) a))) (Err (Malformed node))
