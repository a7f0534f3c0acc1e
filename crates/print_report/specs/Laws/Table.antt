-- The table that a file of bytes says has offsets of 32 bits.
use Rattle.std.specs.Prelude.{Bool, true, false, List, ◌++◌, get_or, replicate, Some, None}
use Prim.Native.Nat.{ℕ, zero, suc, ◌+◌, ◌*◌, ◌-◌, ◌<◌, ◌≤◌, min}
use Rattle.std.proofs.Common.{arith}
use Rattle.prelude.specs.Limits.{max_banks, max_position}
use Rattle.prelude.specs.Pick.{pick}
use Rattle.bankdef.specs.Check.{no_bank}
use Rattle.form_fields.specs.Words.{byte, word16, word32}
use Rattle.form_fields.specs.Columns.{column}
use Rattle.form_fields.specs.Banks.{is_set, bank_at, table_of}
use Rattle.form_fields.specs.Kind.{kind_of}
use Rattle.form_fields.specs.declared.Kind.{Kind}
use Rattle.form_fields.specs.Shape.{bank_count}
use Rattle.print_report.specs.Steps.{OffsetFits, OffsetsFit}

optional : (t : Bool) (n : ℕ) → n ≤ max_position → OffsetFits (pick t (Some n) None)
optional true n h = h
optional false n h = tt

past-table : (k j : ℕ) → OffsetFits (get_or (replicate k no_bank) j no_bank).offset
past-table zero j = tt
past-table (suc k) zero = tt
past-table (suc k) (suc j) = past-table k j

module _ (file : List ℕ) (bytes : (i : ℕ) → get_or file i 0 < 256) where
  pub word_fits : (at : ℕ) → word32 file at ≤ max_position
  unfolding word32 word16
  word_fits at = omega (arith, bytes at, bytes (at + 1), bytes (at + 2), bytes (at + 2 + 1))

  in_table : (kind : Kind) (m k at j : ℕ) → OffsetFits (get_or (column (bank_at kind file) (3 + kind.bank) at m ++ replicate k no_bank) j no_bank).offset
  unfolding column bank_at
  in_table kind zero k at j = past-table k j
  in_table kind (suc m) k at zero = optional (is_set (byte file (at + 25)) 2) (word32 file (at + 17)) (word_fits (at + 17))
  in_table kind (suc m) k at (suc j) = in_table kind m k (at + (3 + kind.bank)) j

  pub table_fits : OffsetsFit (table_of file)
  table_fits k =
      in_table (kind_of file) (min (bank_count file) max_banks) (max_banks - min (bank_count file) max_banks) ((kind_of file).heads * 4) k
