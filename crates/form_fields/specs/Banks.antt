-- The banks of a file. Document 01: "1 bank (unit 2 bytes, signed start 8, size 4, offset 4, label alignment 4, flags 1: size 1, offset
-- 2, label alignment 4, fill 8)". "A number whose flag is clear is not read." Document 02: "a payload one byte longer (fill bit, 0 or 1)".
use Rattle.std.specs.Prelude.{Bool, List, ◌++◌, ◌≡◌, ℕ, ◌+◌, ◌*◌, ◌-◌, ◌/◌, ◌%◌, min, ltb, eqb, ℤ, replicate, Option, Some, None}
use Rattle.std.specs.Int.{w64}
use Rattle.std.proofs.Common.{to_z}
use Rattle.prelude.specs.Limits.{max_banks}
use Rattle.prelude.specs.Pick.{pick}
use Rattle.bankdef.specs.Check.{no_bank}
use Rattle.bankdef.specs.declared.Bankdef.{Bankdef}
use Rattle.bankdef.specs.declared.Bankdefs.{Bankdefs}
use Rattle.form_fields.specs.Words.{byte, word16, word32, word64}
use Rattle.form_fields.specs.Columns.{column}
use Rattle.form_fields.specs.declared.Kind.{Kind}
use Rattle.form_fields.specs.Kind.{kind_of}
use Rattle.form_fields.specs.Shape.{bank_count}

-- Whether a flag is set: each flag is a power of two.
abbrev pub is_set : ℕ → ℕ → Bool
is_set flags flag = eqb (flags / flag % 2) 1

-- A number that is there where its flag is set.
abbrev pub opt_of : ℕ → ℕ → ℕ → Option ℕ
opt_of flags flag n = pick (is_set flags flag) (Some n) None

-- The bank of a record's seven numbers, wherever they stand: in a file, in a payload by itself, or in lists. "A number whose flag is clear is not read."
abbrev pub bank_said : (unit : ℕ) (start : ℤ) (size offset align flags bit : ℕ) → Bankdef
bank_said unit start size offset align flags bit =
    record {
      unit = unit;
      start = start;
      size = opt_of flags 1 size;
      offset = opt_of flags 2 offset;
      align = opt_of flags 4 align;
      fill = is_set flags 8;
      fill_bit = bit;
    }

-- The fill bit is the byte behind the 23 of form 1, where a form has it; elsewhere it is 0. Of a payload that begins `skip` bytes behind `at`.
abbrev pub fill_bit_from : Kind → List ℕ → (at skip : ℕ) → ℕ
fill_bit_from k bytes at skip = pick (ltb 23 k.bank) (byte bytes (at + (skip + 23))) 0

-- The bank of that payload, by its bytes. `to_z w64` reads eight bytes as two's complement.
abbrev pub bank_from : Kind → List ℕ → (at skip : ℕ) → Bankdef
bank_from k bytes at skip =
    bank_said (word16 bytes (at + skip)) (to_z w64 (word64 bytes (at + (skip + 2)))) (word32 bytes (at + (skip + 10))) (word32 bytes (at + (skip + 14)))
    (word32 bytes (at + (skip + 18))) (byte bytes (at + (skip + 22))) (fill_bit_from k bytes at skip)

-- The bank whose field starts at `at`, three bytes before its payload.
abbrev pub fill_bit_at : Kind → List ℕ → ℕ → ℕ
fill_bit_at k file at = fill_bit_from k file at 3

unfoldable pub bank_at : Kind → List ℕ → ℕ → Bankdef
bank_at k file at = bank_from k file at 3

-- The bank of a payload by itself.
unfoldable pub bank_of : Kind → List ℕ → Bankdef
bank_of k payload = bank_from k payload 0 0

-- The first `n` banks of a file, behind the head.
abbrev pub banks_in : Kind → List ℕ → ℕ → List Bankdef
banks_in k file n = column (bank_at k file) (3 + k.bank) (k.heads * 4) n

-- The table of a file: its first 16 banks, and how many it has.
abbrev pub table_of : List ℕ → Bankdefs
table_of file =
    record {
      defs = banks_in (kind_of file) file (min (bank_count file) max_banks) ++ replicate (max_banks - min (bank_count file) max_banks) no_bank;
      len = bank_count file;
    }

-- What reading the banks promises: every entry of the table, and the count.
abbrev pub TableIs : List ℕ → Bankdefs → Type 0
TableIs file answer = answer ≡ table_of file
