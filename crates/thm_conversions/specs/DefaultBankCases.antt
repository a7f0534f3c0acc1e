-- A layout with one bank, and what it becomes: a switch to bank 0, a label, an instruction of 8 bits and an `align`, in two rows.
use Rattle.std.specs.Prelude.{true, [], ◌∷◌, pos, replicate, Some, None}
use Rattle.bankdef.specs.Check.{no_bank}
use Rattle.bankdef.specs.declared.Bankdef.{Bankdef}
use Rattle.resolver.specs.Layout.{by_default}
use Rattle.nodes.specs.Lists.{lists}
use Rattle.output.specs.Output.{Input, input}

abbrev pub bank : Bankdef
bank = record { unit = 8; start = pos 16; size = Some 64; offset = Some 0; align = None; fill = true; fill_bit = 0 }

abbrev pub one : Input
one =
    input (record { defs = bank ∷ replicate 15 no_bank; len = 1 })
    (lists (1 ∷ 2 ∷ 4 ∷ 8 ∷ []) (0 ∷ 0 ∷ 3 ∷ 0 ∷ []) (5 ∷ 6 ∷ 8 ∷ 16 ∷ 5 ∷ 6 ∷ 8 ∷ 32 ∷ []) (0 ∷ 0 ∷ 2 ∷ 0 ∷ 0 ∷ 0 ∷ 1 ∷ 0 ∷ []) 2 (255 ∷ 255 ∷ []))
    (by_default 3)
