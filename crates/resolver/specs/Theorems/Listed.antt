-- Which record a bank number has: the table's own for a bank that it lists, and one of unit 0 for every other number.
use Rattle.std.specs.Prelude.{ℕ, ◌<◌, ◌≤◌, ◌≡◌, get_or, length}
use Rattle.std.proofs.Common.{sym, subst, ⊎_elim, arith, length-take, get_or-take}
use Rattle.std.proofs.Math.ListN.{get_or-eq_default}
use Rattle.bankdef.specs.Check.{no_bank, banks_of}
use Rattle.bankdef.specs.declared.Bankdef.{Bankdef}
use Rattle.bankdef.specs.declared.Bankdefs.{Bankdefs}
use Rattle.resolver.specs.Laws.Least.{or-past}
use Rattle.resolver.specs.Once.{bank_record}

module _ (banks : Bankdefs) (bank : ℕ) where
  -- a bank that the table lists has the table's record
  pub listed-bank : bank < banks.len → bank_record banks bank ≡ get_or banks.defs bank no_bank
  listed-bank h = get_or-take banks.len banks.defs bank no_bank h

  -- from the table's count on there is none, whatever stands behind the banks that are listed
  pub unlisted-bank : banks.len ≤ bank → bank_record banks bank ≡ no_bank
  unlisted-bank h = get_or-eq_default (banks_of banks) no_bank (rw (length-take banks.len banks.defs) (omega arith))

  -- and none past the records themselves
  pub past-records : length banks.defs ≤ bank → bank_record banks bank ≡ no_bank
  past-records h = get_or-eq_default (banks_of banks) no_bank (rw (length-take banks.len banks.defs) (omega arith))

  -- what holds of the table's record and of the one of unit 0 holds of the record of every bank number
  pub either-record : (P : Bankdef → Type 0) → P no_bank → P (get_or banks.defs bank no_bank) → P (bank_record banks bank)
  either-record P none some =
      ⊎_elim (λ (h : banks.len ≤ bank). subst P (sym (unlisted-bank h)) none)
      (λ (h : bank < banks.len). subst P (sym (listed-bank h)) some)
      (or-past banks.len bank)
