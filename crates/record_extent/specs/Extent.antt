-- Where the bytes of a file stand. It is read from load address 0 on, so that it is bad exactly where no load address makes it good. "4 for .. a bad file"
-- (document 02, Ticket 1).
use Rattle.std.specs.Prelude.{List, [], ◌∷◌, ℕ, min, eqb, Err, Result, Ok}
use Rattle.prelude.specs.Pick.{pick}
use Rattle.prelude.specs.declared.Refusal.TheVariants.{Malformed}
use Rattle.prelude.specs.declared.Refusal.{Refusal}
use Rattle.record_lines.specs.Pieces.{Piece}
use Rattle.record_scan.specs.Reading.{Read, sound, faulty}
use Rattle.record_scan.specs.Steps.{highest}
use Rattle.record_extent.specs.declared.Extent.{Extent}

-- The lowest address of pieces, 2^32 for none.
unfoldable pub lowest_of : List Piece → ℕ
lowest_of [] = 4294967296
lowest_of (p ∷ l) = min p.address (lowest_of l)

-- an extent, by its two ends
abbrev pub reaches : ℕ → ℕ → Result Extent Refusal
reaches lowest end = Ok (record { lowest = lowest; end = end })

-- From the lowest address to the highest end; where no byte is given, from 0 to 0.
abbrev pub extent_of : Read → Result Extent Refusal
extent_of (sound pieces) = reaches (pick (eqb (highest pieces) 0) 0 (lowest_of pieces)) (highest pieces)
extent_of (faulty line) = Err (Malformed 0)
