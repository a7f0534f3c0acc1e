-- Refusals 1, 2 and 3 of a table of banks, in document 01's order: "1, 2 by ascending bank, 3".
use Rattle.std.specs.Prelude.{ℕ, ◌+◌, Bool, false, ◌&&◌, List, [], ◌∷◌, ltb, leb, pos, length, get_or, take, drop, None, Err}
use Rattle.prelude.specs.Limits.{max_banks}
use Rattle.prelude.specs.Pick.{pick}
use Rattle.prelude.specs.declared.Refusal.TheVariants.{BankCount, BankNumber, BanksOverlap}
use Rattle.prelude.specs.Verdict.{Verdict, Accepted}
use Rattle.bankdef.specs.declared.Bankdef.{Bankdef}
use Rattle.bankdef.specs.declared.Bankdefs.{Bankdefs}
use Rattle.bankdef.specs.Search.{first_where, some_where}
use Rattle.bankdef.specs.Numbers.{bank_fault, zero_fault}
use Rattle.bankdef.specs.Overlap.{pair_overlaps}

-- The banks of a table: the first `len` of the records lent.
abbrev pub banks_of : Bankdefs → List Bankdef
banks_of t = take t.len t.defs

-- Stands for a bank past a table's end; no bank of a table is compared with it.
abbrev pub no_bank : Bankdef
no_bank = record { unit = 0; start = pos 0; size = None; offset = None; align = None; fill = false; fill_bit = 0 }

-- "banks, bank 0 included: 1 to 16"
abbrev pub count_sound : ℕ → Bool
count_sound n = leb 1 n && leb n max_banks

-- "2 by ascending bank": the first bank at fault by its record, "also .. bank 0 with fill bit one"; the banks' count where none is.
abbrev pub first_fault : List Bankdef → ℕ
first_fault l = pick (zero_fault (get_or l 0 no_bank)) 0 (first_where bank_fault l)

-- whether one is
abbrev pub some_fault : List Bankdef → Bool
some_fault l = ltb (first_fault l) (length l)

-- "Pairs are compared in rising order": the banks from number i on, each with those after it.
unfoldable pub first_pair : ℕ → List Bankdef → Verdict
first_pair i [] = Accepted
first_pair i (a ∷ l) =
    pick (some_where (pair_overlaps a) l)
    (Err (BanksOverlap i (i + 1 + first_where (pair_overlaps a) l)))
    (first_pair (i + 1) l)

-- "2 by ascending bank, 3": the first bank at fault; without one, the first pair, "bank 0 .. never" in it.
abbrev pub check_banks : List Bankdef → Verdict
check_banks l = pick (some_fault l) (Err (BankNumber (first_fault l))) (first_pair 1 (drop 1 l))

-- "1: the bank count is outside 1 to 16"
abbrev pub check_of : Bankdefs → Verdict
check_of t = pick (count_sound t.len) (check_banks (banks_of t)) (Err BankCount)
