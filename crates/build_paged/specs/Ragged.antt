-- A layout in the profile whose image is not whole pages: nothing is filled. A page of 16 bits, a bank of 16 bits at offset 0, an item of 3 bits.
use Rattle.std.specs.Prelude.{Bool, false, [], ◌∷◌, pos, replicate, None, Some}
use Rattle.bankdef.specs.Check.{no_bank}
use Rattle.bankdef.specs.declared.Bankdefs.{Bankdefs}
use Rattle.nodes.specs.Lists.{lists}
use Rattle.output.specs.Output.{Input, input}

-- bank 0, and bank 1 with 16 bits at offset 0, filled or not
abbrev pub paged_banks : Bool → Bankdefs
paged_banks filled =
    record {
      defs = record { unit = 8; start = pos 0; size = None; offset = None; align = None; fill = false; fill_bit = 0 }
          ∷ record { unit = 8; start = pos 0; size = Some 16; offset = Some 0; align = None; fill = filled; fill_bit = 0 } ∷ replicate 14 no_bank;
      len = 2;
    }

-- a switch to bank 1 and an instruction of 3 bits; with full fill
abbrev pub three_bits : Bool → Input
three_bits filled =
    input (paged_banks filled) (lists (1 ∷ 4 ∷ []) (1 ∷ 0 ∷ []) (0 ∷ 3 ∷ []) (0 ∷ 0 ∷ []) 1 (224 ∷ []))
    (record { limit = 1; fill = 1; closed = false })
