-- Document 01's P cases of the distance, and document 02's below zero and in units, as one statement.
use Rattle.std.specs.Prelude.{ℕ, ◌≡◌, true, false, pos, negsuc, None, Ok}
use Rattle.bankdef.specs.declared.Bankdef.{Bankdef}
use Rattle.iter.specs.Distance.{tellable, address_in_bits, remainder, no_skip, distance_of}

-- "unit 10, start 0", all else absent
abbrev pub unit_ten : Bankdef
unit_ten = record { unit = 10; start = pos 0; size = None; offset = None; align = None; fill = false; fill_bit = 0 }

-- unit 8, start 0
abbrev pub unit_eight : Bankdef
unit_eight = record { unit = 8; start = pos 0; size = None; offset = None; align = None; fill = false; fill_bit = 0 }

-- a bank of single bits whose first address is -3
abbrev pub below_zero : Bankdef
below_zero = record { unit = 1; start = negsuc 2; size = None; offset = None; align = None; fill = false; fill_bit = 0 }

pub record DistanceCases : Type 0 where
  -- "alignment 0 at any address: 0"
  pub none : (def : Bankdef) (position node : ℕ) → tellable def ≡ true → distance_of def position 0 node ≡ Ok no_skip
  -- "unit 10, start 0, position 10, alignment 16: 6"
  pub six : (node : ℕ) → distance_of unit_ten 10 16 node ≡ Ok (record { bits = 6; units = 0 })
  -- "position 16: 0"
  pub there : (node : ℕ) → distance_of unit_ten 16 16 node ≡ Ok no_skip
  -- document 02, Ticket 3: "address -3 in bits with alignment 8 has remainder 5 and moves 3"
  pub remains : remainder (address_in_bits below_zero 0) 8 ≡ 5
  pub three : (node : ℕ) → distance_of below_zero 0 8 node ≡ Ok (record { bits = 3; units = 3 })
  -- document 02, Ticket 2: unit 8, position 4, alignment 16: 12 bits, which are 1 whole unit
  pub twelve : (node : ℕ) → distance_of unit_eight 4 16 node ≡ Ok (record { bits = 12; units = 1 })
