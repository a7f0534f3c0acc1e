-- Ticket 2, "Padding figures", in a build: "each bank should carry the sum of bits lost to `align` and to label alignment in the last pass", and
-- "everything that uses the distance passes both on". An accepted build answers a sum of bits and one of whole units for each of banks 0 to 15, from the row of
-- the last pass; a refused one zeros.
use Rattle.std.specs.Prelude.{List, [], ◌∷◌, ℕ, replicate}
use Rattle.iter.specs.Step.{no_lost}
use Rattle.iter.specs.declared.Lost.{Lost}
use Rattle.resolver.specs.Cases.{one_bank}
use Rattle.resolver.specs.Layout.{by_default}
use Rattle.nodes.specs.Lists.{lists}
use Rattle.output.specs.Output.{Input, input}

-- ---- the row of the last pass, and no other

-- One bank, a reserve of 1 bit and an `align`: three rows, all resolved, whose alignments are x, y and z. Limit 10: K is 1, and pass 2 is the last.
abbrev pub reserve_then_align : ℕ → ℕ → ℕ → Input
reserve_then_align x y z =
    input one_bank (lists (7 ∷ 8 ∷ []) (0 ∷ 0 ∷ []) (1 ∷ x ∷ 1 ∷ y ∷ 1 ∷ z ∷ []) (0 ∷ 0 ∷ 0 ∷ 0 ∷ 0 ∷ 0 ∷ []) 3 []) (by_default 10)

-- its `align` to 8 loses 7 bits, which are no whole unit of 8
abbrev pub seven_bits : List Lost
seven_bits = record { bits = 7; units = 0 } ∷ replicate 15 no_lost
