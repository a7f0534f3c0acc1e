-- Laws that Theorems/Refused rests on.
use Rattle.std.specs.Prelude.{◌≡◌, refl, true, false, List, ℕ, zero, suc, ◌≤◌, ◌<◌, length, get_or}
use Rattle.std.proofs.Common.{arith, lt-ltb, eqb-true, ne_eqb}
use Rattle.bankdef.specs.declared.Bankdef.{Bankdef}
use Rattle.bankdef.specs.declared.Bankdefs.{Bankdefs}
use Rattle.prelude.specs.Laws.Bools.{either, clash}
use Rattle.prelude.specs.Verdict.{Verdict}
use Rattle.bankdef.specs.Search.{first_where}
use Rattle.bankdef.specs.Laws.Search.{not-before, first_passes}
use Rattle.bankdef.specs.Numbers.{fill_bit, bank_fault, zero_fault, fault_at, bank-0-one}
use Rattle.bankdef.specs.Theorems.Numbers.{fault-anywhere, fault-exactly}
use Rattle.bankdef.specs.Check.{no_bank, banks_of, count_sound, first_fault, some_fault}
use Rattle.bankdef.specs.Pairs.{Pairs, apart, joint}
use Rattle.bankdef.specs.Refused.{Decided, NoFault, pair, sound}

module _ (l : List Bankdef) where
  abbrev pub z : Bankdef
  z = get_or l 0 no_bank

  -- without bank 0's own rule, a bank at fault is so by its record
  by-record : zero_fault z ≡ false → (k : ℕ) → fault_at k (get_or l k no_bank) ≡ true → bank_fault (get_or l k no_bank) ≡ true
  by-record e zero f =
      either (bank_fault z) (λ g. g) (λ g. absurd (clash (let h : zero_fault z ≡ true = rw g at f in h) e))
  by-record e (suc k) f = either (bank_fault (get_or l (suc k) no_bank)) (λ g. g) (λ g. absurd (clash (rw (g, ne_eqb (suc k) 0 (λ e. omega arith)) at f) refl))

  -- no bank at fault comes before the first
  pub fault-not-before : (k : ℕ) → k < length l → fault_at k (get_or l k no_bank) ≡ true → first_fault l ≤ k
  fault-not-before k h f =
      either (zero_fault z) (λ e. rw e (omega arith)) (λ e. rw e (not-before bank_fault no_bank l k h (by-record e k f)))

  pub first-at-fault : first_fault l < length l → fault_at (first_fault l) (get_or l (first_fault l) no_bank) ≡ true
  first-at-fault h =
      either (zero_fault z)
      (λ e. rw e ((fault-exactly 0 z).1 (bank-0-one refl (eqb-true (fill_bit z) 1 e))))
      (λ e. rw e (fault-anywhere (first_where bank_fault l) (get_or l (first_where bank_fault l) no_bank)
      (first_passes bank_fault no_bank l (rw e at h))))

  pub some-fault : (k : ℕ) → k < length l → fault_at k (get_or l k no_bank) ≡ true → some_fault l ≡ true
  some-fault k h f = lt-ltb (first_fault l) (length l) (omega (arith, fault-not-before k h f))

pub concluded : {t : Bankdefs} {v : Verdict} → count_sound t.len ≡ true → NoFault (banks_of t) → Pairs (banks_of t) v → Decided t v
concluded n f (apart g) = sound n f g
concluded n f (joint g) = pair n f g
