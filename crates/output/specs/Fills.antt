-- Ticket 8, "Fill must reach the end": what the choice of the fill gives a build. The image's bits are told once, over its length, for both
-- choices (ItemBits, Gaps); here is which length each choice fills to, the one-bit lock bank that the inherited fill leaves out, and that the
-- choice changes the length alone.
use Rattle.std.specs.Prelude.{true, false, [], ◌∷◌, ℕ, pos, replicate, Some, None}
use Rattle.bankdef.specs.Check.{no_bank}
use Rattle.bankdef.specs.declared.Bankdef.{Bankdef}
use Rattle.bankdef.specs.declared.Bankdefs.{Bankdefs}
use Rattle.nodes.specs.Lists.{lists}
use Rattle.output.specs.Output.{Input, input}

-- ---- "A one-bit lock bank at offset 8 after a filled byte"

abbrev pub filled_at : ℕ → ℕ → ℕ → Bankdef
filled_at bit offset size =
    record { unit = 8; start = pos 0; size = Some size; offset = Some offset; align = None; fill = true; fill_bit = bit }

abbrev pub lock_banks : ℕ → Bankdefs
lock_banks bit =
    record {
      defs = record { unit = 8; start = pos 0; size = None; offset = None; align = None; fill = false; fill_bit = 0 }
          ∷ filled_at bit 0 8 ∷ filled_at bit 8 1 ∷ replicate 13 no_bank;
      len = 3;
    }

-- the build of these banks, with no nodes, by their fill bit and by the choice of the fill
abbrev pub lock_build : ℕ → ℕ → Input
lock_build bit choice = input (lock_banks bit) (lists [] [] [] [] 1 []) (record { limit = 1; fill = choice; closed = false })
