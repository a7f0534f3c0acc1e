-- A table of banks that is lent as seven lists of numbers, one element of each for a bank, with the flags of a file: "size 1, offset 2,
-- label alignment 4, fill 8"; and what the caller of a build chooses.
use Rattle.std.specs.Prelude.{List, ◌++◌, ℕ, ◌-◌, min, eqb, leb, ℤ, pos, length, get_or, replicate}
use Rattle.prelude.specs.Limits.{max_banks}
use Rattle.prelude.specs.Pick.{pick}
use Rattle.bankdef.specs.Check.{no_bank}
use Rattle.bankdef.specs.declared.Bankdef.{Bankdef}
use Rattle.bankdef.specs.declared.Bankdefs.{Bankdefs}
use Rattle.form_fields.specs.Banks.{bank_said}
use Rattle.form_fields.specs.Columns.{column}
use Rattle.resolver.specs.declared.Choices.{Choices}

pub record Given : Type 0 where
  pub units : List ℕ
  pub starts : List ℤ
  pub sizes : List ℕ
  pub offsets : List ℕ
  pub aligns : List ℕ
  pub flags : List ℕ
  pub bits : List ℕ

abbrev pub given : List ℕ → List ℤ → List ℕ → List ℕ → List ℕ → List ℕ → List ℕ → Given
given units starts sizes offsets aligns flags bits =
    record { units = units; starts = starts; sizes = sizes; offsets = offsets; aligns = aligns; flags = flags; bits = bits }

-- Flags above 15 mean nothing. Such a bank has unit 0, "a bank number .. beyond its limit".
abbrev pub unit_of : ℕ → ℕ → ℕ
unit_of unit flags = pick (leb flags 15) unit 0

-- The bank of a record's numbers, as of a file's; with flags that mean nothing it has no unit.
abbrev pub bank_of : (unit : ℕ) (start : ℤ) (size offset align flags bit : ℕ) → Bankdef
bank_of unit start size offset align flags bit = bank_said (unit_of unit flags) start size offset align flags bit

-- bank i
unfoldable pub bank_in : Given → ℕ → Bankdef
bank_in g i =
    bank_of (get_or g.units i 0) (get_or g.starts i (pos 0)) (get_or g.sizes i 0)
    (get_or g.offsets i 0) (get_or g.aligns i 0) (get_or g.flags i 0) (get_or g.bits i 0)

abbrev pub banks_in : Given → ℕ → List Bankdef
banks_in g n = column (bank_in g) 1 0 n

-- a count, if a list is as long as it should be
abbrev pub agree : ℕ → ℕ → ℕ → ℕ
agree len wanted count = pick (eqb len wanted) count 0

-- As many banks as each of the lists is long; lists of different lengths make none, "the bank count is outside 1 to 16".
unfoldable pub count_of : Given → ℕ
count_of g =
    agree (length g.bits) (length g.units)
    (agree (length g.flags) (length g.units)
    (agree (length g.aligns) (length g.units)
    (agree (length g.offsets) (length g.units)
    (agree (length g.sizes) (length g.units)
    (agree (length g.starts) (length g.units) (length g.units))))))

-- The table: its first 16 banks, and how many there are.
abbrev pub table_of : Given → Bankdefs
table_of g =
    record {
      defs = banks_in g (min (count_of g) max_banks) ++ replicate (max_banks - min (count_of g) max_banks) no_bank;
      len = count_of g;
    }

-- What a caller chooses in numbers: the pass limit, the fill ("Refusals: 4 for an unknown choice"), and whether bank 0 is closed where it is
-- alone: 0 as in form 1, any other number as "from form 2 on" (document 02, Ticket 13).
abbrev pub choices_by : ℕ → ℕ → ℕ → Choices
choices_by limit fill closed = record { limit = limit; fill = fill; closed = leb 1 closed }
