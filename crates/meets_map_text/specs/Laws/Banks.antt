-- The lines of the banks: a bank of the table is the one that is given, whether or not the table passes its checks, and its line is the sentences' own.
use Rattle.std.specs.Prelude.{◌≡◌, List, [], ◌∷◌, map, eqb, get_or, replicate}
use Rattle.std.proofs.Math.Path.{refl}
use Rattle.std.proofs.Common.{sym, ap, subst, ◌∙◌, div-one, arith, get_or-take, eqb-true, le-leb}
use Prim.Native.Nat.{ℕ, zero, suc, ◌-◌, ◌/◌, ◌%◌, ◌≤◌, ◌<◌, min}
use Rattle.std.proofs.Math.ListN.{get_or-append}
use Rattle.std.proofs.lemmas.Bool.{eqb-false}
use Rattle.prelude.specs.Laws.Bools.{either}
use Rattle.prelude.specs.Limits.{max_banks}
use Rattle.bankdef.specs.Check.{no_bank}
use Rattle.bankdef.specs.declared.Bankdef.{Bankdef}
use Rattle.iter.specs.Step.{no_lost}
use Rattle.iter.specs.declared.Lost.{Lost}
use Rattle.form_fields.specs.Banks.{is_set, opt_of}
use Rattle.form_fields.specs.Laws.Columns.{column-length, column-at}
use Rattle.resolver.specs.Once.{bank_record}
use Rattle.c_tables.specs.Tables as tables
use Rattle.c_tables.specs.Tables.{given, unit_of, bank_in, banks_in, count_of}
use Rattle.print_text.specs.Ascii.{ascii}
use Rattle.print_map.specs.Cells as made
use Rattle.print_map.specs.Cells.{optional}
use Rattle.print_map.specs.Marks.{bit_of}
use Rattle.print_map.specs.Text.{bank_line, banks_text}
use Rattle.says.specs.Build.{Given, banks, unit, start, flag, fill_bit, Size, Offset, Align}
use Rattle.says.specs.MapText as says
use Rattle.says.specs.MapText.{Cell, Optional, Fill, BankLine, BankLines}
use Rattle.meets_build.specs.Laws.Table.{table, record_of}
use Rattle.meets_map_text.specs.Laws.Records.{as_made, record-meets, whole_meets}

-- a number behind a flag
module _ (f k n : ℕ) (Has : ℕ → Type 0) (yes : f / k % 2 ≡ 1 → Has n) (only : (m : ℕ) → Has m → f / k % 2 ≡ 1) where
  flagged : (c : Cell) × Optional Has c × (as_made c ≡ optional (opt_of f k n))
  flagged =
      either (eqb (f / k % 2) 1)
      (λ t. (says.number n, says.there (yes (eqb-true (f / k % 2) 1 t)), rw t))
      (λ t. (says.none, says.absent (λ m h. eqb-false (f / k % 2) 1 t (only m h)), rw t))

module _ (g : Given) (counted : (table g).len ≡ banks g) (small : (b : ℕ) → b < banks g → flag g b ≤ 15) where
  abbrev lent : tables.Given
  lent = given g.units g.starts g.bank_sizes g.bank_offsets g.aligns g.flags g.fill_bits

  in-fields : (b : ℕ) → bank_in lent b ≡ record_of g b
  unfolding bank_in
  in-fields b = refl

  record-at : (b : ℕ) → b < min (banks g) 16 → bank_record (table g) b ≡ record_of g b
  record-at b h =
      let n = min (count_of lent) max_banks in
      let less : b < min (count_of lent) max_banks = subst (λ (c : ℕ). b < min c 16) (sym counted) h in
      let m = column-length (bank_in lent) 1 0 n in
      get_or-take (table g).len (table g).defs b no_bank (omega (arith, less))
      ∙ get_or-append (banks_in lent n) (replicate (max_banks - n) no_bank) no_bank b (omega (arith, m, less))
      ∙ column-at (bank_in lent) 1 no_bank 0 n b less ∙ ap (bank_in lent) (omega arith) ∙ in-fields b

  -- ---- a bank's columns

  module _ (b : ℕ) where
    fill-column : (f : ℕ) × Fill g b f × (bit_of (is_set (flag g b) 8) ≡ f)
    fill-column =
        either (eqb (flag g b / 8 % 2) 1)
        (λ t. (1, says.filled (eqb-true (flag g b / 8 % 2) 1 t), rw t))
        (λ t. (0, says.unfilled (eqb-false (flag g b / 8 % 2) 1 t), rw t))

    size-column : (c : Cell) × Optional (Size g b) c × (as_made c ≡ optional (record_of g b).size)
    size-column =
        let one = ap (λ (f : ℕ). f % 2) (div-one (flag g b)) in
        flagged (flag g b) 1 (get_or g.bank_sizes b 0) (Size g b) (λ e. (sym one ∙ e, refl)) (λ m s. one ∙ s.0)

    offset-column : (c : Cell) × Optional (Offset g b) c × (as_made c ≡ optional (record_of g b).offset)
    offset-column = flagged (flag g b) 2 (get_or g.bank_offsets b 0) (Offset g b) (λ e. (e, refl)) (λ m s. s.0)

    align-column : (c : Cell) × Optional (Align g b) c × (as_made c ≡ optional (record_of g b).align)
    align-column = flagged (flag g b) 4 (get_or g.aligns b 0) (Align g b) (λ e. (e, refl)) (λ m s. s.0)

    columns-same : {u u' f f' x y : ℕ} (s m o a : Cell) {s' m' o' a' : made.Cell} → u' ≡ u → as_made s ≡ s' → as_made m ≡ m' → as_made o ≡ o' → as_made a ≡ a'
        → f' ≡ f
        → map as_made (says.number b ∷ says.number u ∷ s ∷ m ∷ o ∷ a ∷ says.number f ∷ says.number (fill_bit g b) ∷ says.number x ∷ says.number y ∷ [])
        ≡ made.number b ∷ made.number u' ∷ s' ∷ m' ∷ o' ∷ a' ∷ made.number f' ∷ made.number (fill_bit g b) ∷ made.number x ∷ made.number y ∷ []
    columns-same s m o a eu es em eo ea ef = rw (eu, es, em, eo, ea, ef)

    bank-meets : b < min (banks g) 16 → (lost : Lost) → BankLine g b lost (bank_line b (bank_record (table g) b) lost)
    bank-meets h lost =
        let s = whole_meets (start g b) in
        let f = fill-column in
        let few : flag g b ≤ 15 = small b (omega (arith, h)) in
        let one : unit_of (unit g b) (flag g b) ≡ unit g b = rw (le-leb (flag g b) 15 few) in
        subst (λ (d : Bankdef). BankLine g b lost (bank_line b d lost)) (sym (record-at b h))
        (says.bank s.1 size-column.1 offset-column.1 align-column.1 f.1
        (record-meets (ascii "bank") _ _
        (columns-same s.0 size-column.0 offset-column.0 align-column.0 one s.2 size-column.2 offset-column.2 align-column.2 f.2)))

  banks-meet : (lost : List Lost) (n : ℕ) → n ≤ min (banks g) 16 → BankLines g lost n (banks_text (table g) lost n)
  unfolding banks_text
  banks-meet lost zero h = says.no-bank
  banks-meet lost (suc b) h = says.more (banks-meet lost b (omega (arith, h))) (bank-meets b h (get_or lost b no_lost))

  pub all-banks-meet : (lost : List Lost) → BankLines g lost (min (banks g) 16) (banks_text (table g) lost (min (table g).len max_banks))
  all-banks-meet lost =
      subst (λ (n : ℕ). BankLines g lost (min (banks g) 16) (banks_text (table g) lost (min n max_banks))) (sym counted)
      (banks-meet lost (min (banks g) 16) (omega arith))
