-- The cases of document 01 that speak of banks and are marked P, as one statement.
use Rattle.std.specs.Prelude.{Bool, true, false, ◌∷◌, ℕ, pos, replicate, Option, None, Some}
use Rattle.prelude.specs.Verdict.{Verdict}
use Rattle.bankdef.specs.declared.Bankdef.{Bankdef}
use Rattle.bankdef.specs.declared.Bankdefs.{Bankdefs}
use Rattle.bankdef.specs.Check.{no_bank, banks_of, check_of}
use Rattle.bankdef.specs.Fill.{fill_length}

-- a bank of eight-bit units from address 0, by its offset, size and fill
abbrev pub bank : Option ℕ → Option ℕ → Bool → Bankdef
bank offset size fill = record { unit = 8; start = pos 0; size = size; offset = offset; align = None; fill = fill; fill_bit = 0 }

-- a table of bank 0 and two more
abbrev pub table : Bankdef → Bankdef → Bankdefs
table a b = record { defs = bank (Some 0) None false ∷ a ∷ b ∷ replicate 13 no_bank; len = 3 }

-- the verdict on two banks by offset and size
abbrev pub two : ℕ → Option ℕ → ℕ → Option ℕ → Verdict
two o m p n = check_of (table (bank (Some o) m false) (bank (Some p) n false))

-- the fill's length where one bank is filled, from offset 0
abbrev pub alone : ℕ → ℕ
alone size = fill_length (banks_of (table (bank (Some 0) (Some size) true) (bank None None false)))
